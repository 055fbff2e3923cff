-- The page of a node, written part by part, shows the node.
use Rattle.std.proofs.Common.{◌≡◌, ◌≢◌, ℕ, ◌+◌, ◌-◌, ◌*◌, ◌≤◌, Bool, true, false, cond, eqb, List, ◌++◌, length, get_or, take, drop, replicate, refl, sym, ap, ◌∙◌, arith, subst, Some, IsTrue}
use Rattle.std.specs.List.{flat_map, list_all}
use Rattle.std.proofs.lemmas.List.{length-take-le, length-drop, length-append, drop-drop, drop_at, take_at, append_assoc}
use Rattle.std.proofs.lemmas.List.Sums.{list_all-from_AllPass}
use Rattle.ct_page.specs.declared.kind.PageKind.TheVariants.{Unwritten, Leaf, Inner}
use Rattle.ct_page.specs.Fields.{u16_at, are_zero}
use Rattle.ct_page.specs.Kinds.{number_of}
use Rattle.ct_page.specs.Headers.{has_header, has_fields, header_bytes, header_of}
use Rattle.ct_page.proofs.HeaderLemmas.{written_is_read, written_is_in_grammar, fields_are}
use Rattle.ct_page.proofs.Zeros.{are_zero-replicate}
use Rattle.ct_node.specs.Nodes.{NodeValue, IsNode, pairs_in, width_of, capacity_of, is_within}
use Rattle.ct_page.specs.declared.header.Header.{Header}
use Rattle.ct_node.specs.Cells.{entries_of, entry_bytes, with_bytes}
use Rattle.ct_node.specs.Stored.{value_of}
use Rattle.ct_node.specs.declared.node.Node.TheInside.{Inside}
use Rattle.ct_node.proofs.Entries.{length-entries_of}
use Rattle.ct_node.specs.Pages.{is_node_kind, is_leaf_in, high_at, cells_at, cells_end, is_bound, bound_at, value_in, rises, node_in, bound_bytes, IsFitting, header_in, room_in, page_text}
use Rattle.ct_node.proofs.Rising.{rises-IsAscending}
use Rattle.ct_node.proofs.Spellings.{AreBytes, entries_bytes, entries_of-same, length-bound_bytes, bound_at-bytes, is_bound-bytes}
use Rattle.ct_node.proofs.PageLemmas.{room_behind, HasNodeHeader, HasParts, header_from_parts, page_from_parts, node_in-is, same_node}

-- what stands in front of the end of a part that was written
front_written : (at : ℕ) (xs page new front : List ℕ) → at ≤ length page → new ≡ with_bytes at xs page → take at page ≡ front → take (at + length xs) new ≡ front ++ xs
front_written at xs page new front within is before =
    let long = length-take-le at page within in
    let both = length-append (take at page) xs in
    ap (take (at + length xs)) (is ∙ sym (append_assoc (take at page) xs (drop (at + length xs) page)))
    ∙ take_at (take at page ++ xs) (drop (at + length xs) page) (at + length xs) (omega arith)
    ∙ ap (λ ys. ys ++ xs) before

length-with_bytes : (at : ℕ) (xs page : List ℕ) → at + length xs ≤ length page → length (with_bytes at xs page) ≡ length page
length-with_bytes at xs page within =
    let front = length-take-le at page (omega arith) in
    let behind = length-drop (at + length xs) page in
    let both = length-append xs (drop (at + length xs) page) in
    let all = length-append (take at page) (xs ++ drop (at + length xs) page) in
    omega arith

-- the parts of a page, written one behind the other
pub parts_written : (header low high cells : List ℕ) (key_len len : ℕ) (old first second third fourth new : List ℕ) → length header ≡ 128 → length low ≡ 9 + key_len → length high ≡ 9 + key_len → length cells ≡ len → length old ≡ 4096 → cells_at key_len + len ≤ 4096
    → first ≡ header ++ drop 128 old → second ≡ with_bytes 128 low first → third ≡ with_bytes (high_at key_len) high second → fourth ≡ with_bytes (cells_at key_len) cells third → new ≡ take (cells_at key_len + len) fourth ++ replicate (4096 - (cells_at key_len + len)) 0
    → new ≡ header ++ (low ++ (high ++ (cells ++ replicate (3968 - 2 * (9 + key_len) - len) 0)))
parts_written header low high cells key_len len old first second third fourth new h l g c long within one two three four five =
    let zeros : List ℕ = replicate (3968 - 2 * (9 + key_len) - len) 0 in
    let first_long : length first ≡ 4096 = ap length one ∙ length-append header (drop 128 old) ∙ (let sum : length header + length (drop 128 old) ≡ 4096 = omega (arith, length-drop 128 old) in sum) in
    let second_long : length second ≡ 4096 = ap length two ∙ length-with_bytes 128 low first (omega arith) ∙ first_long in
    let third_long : length third ≡ 4096 = ap length three ∙ length-with_bytes (high_at key_len) high second (omega arith) ∙ second_long in
    let a : take 128 first ≡ header = ap (take 128) one ∙ take_at header (drop 128 old) 128 h in
    let b : take (128 + length low) second ≡ header ++ low = front_written 128 low first second header (omega arith) two a in
    let at_high : high_at key_len ≡ 128 + length low = omega arith in
    let d : take (high_at key_len + length high) third ≡ (header ++ low) ++ high = front_written (high_at key_len) high second third (header ++ low) (omega arith) three (ap (λ n. take n second) at_high ∙ b) in
    let at_cells : cells_at key_len ≡ high_at key_len + length high = omega arith in
    let e : take (cells_at key_len + length cells) fourth ≡ ((header ++ low) ++ high) ++ cells = front_written (cells_at key_len) cells third fourth ((header ++ low) ++ high) (omega arith) four (ap (λ n. take n third) at_cells ∙ d) in
    let at_end : cells_at key_len + len ≡ cells_at key_len + length cells = omega arith in
    let left : 4096 - (cells_at key_len + len) ≡ 3968 - 2 * (9 + key_len) - len = omega arith in
    five
    ∙ ap (λ n. take n fourth ++ replicate (4096 - (cells_at key_len + len)) 0) at_end
    ∙ ap (λ ys. ys ++ replicate (4096 - (cells_at key_len + len)) 0) e
    ∙ ap (λ n. (((header ++ low) ++ high) ++ cells) ++ replicate n 0) left
    ∙ append_assoc ((header ++ low) ++ high) cells zeros
    ∙ append_assoc (header ++ low) high (cells ++ zeros)
    ∙ append_assoc header low (high ++ (cells ++ zeros))

-- a page with the parts of a node's page
pub record IsText (position : ℕ) (node : NodeValue) (page : List ℕ) : Type 0 where
  pub cells : List ℕ
  pub zeros : ℕ
  pub text : page ≡ header_bytes (header_in position node) ++ (bound_bytes node.key_len node.low ++ (bound_bytes node.key_len node.high ++ (cells ++ replicate zeros 0)))
  pub fields : IsTrue (has_fields (header_in position node))
  pub low : IsFitting node.key_len node.low
  pub high : IsFitting node.key_len node.high
  pub is : IsNode node
  pub long : length cells ≡ length node.entries * width_of node.key_len node.leaf
  pub entries : (rest : List ℕ) → entries_of node.key_len node.leaf (length node.entries) (cells ++ rest) ≡ node.entries

leaf_number : (leaf : Bool) → eqb (number_of (cond leaf Leaf Inner)) 5 ≡ leaf
leaf_number true = refl
leaf_number false = refl

node_number : (leaf : Bool) → is_node_kind (number_of (cond leaf Leaf Inner)) ≡ true
node_number true = refl
node_number false = refl

written_kind : (leaf : Bool) → cond leaf Leaf Inner ≢ Unwritten
written_kind true is = cc
written_kind false is = cc

-- where such a page has its parts
record HasPlaces (position : ℕ) (node : NodeValue) (page kept : List ℕ) (zeros : ℕ) : Type 0 where
  pub told : header_of page ≡ Some (header_in position node)
  pub first : get_or page 0 0 ≡ number_of (cond node.leaf Leaf Inner)
  pub grammar : has_header page ≡ true
  pub low : drop 128 page ≡ bound_bytes node.key_len node.low ++ (bound_bytes node.key_len node.high ++ (kept ++ replicate zeros 0))
  pub high : drop (high_at node.key_len) page ≡ bound_bytes node.key_len node.high ++ (kept ++ replicate zeros 0)
  pub cells : drop (cells_at node.key_len) page ≡ kept ++ replicate zeros 0
  pub end : drop (cells_at node.key_len + length node.entries * width_of node.key_len node.leaf) page ≡ replicate zeros 0

places : (position : ℕ) (node : NodeValue) (page : List ℕ) (t : IsText position node page) → HasPlaces position node page t.cells t.zeros
places position node page t =
    let header = header_in position node in
    let len = node.key_len in
    let most = length node.entries * width_of node.key_len node.leaf in
    let zeros : List ℕ = replicate t.zeros 0 in
    let low = bound_bytes node.key_len node.low in
    let high = bound_bytes node.key_len node.high in
    let rest = low ++ (high ++ (t.cells ++ zeros)) in
    let at_low : drop 128 page ≡ low ++ (high ++ (t.cells ++ zeros)) = ap (drop 128) t.text ∙ drop_at (header_bytes header) rest 128 refl in
    let at_high : drop (high_at len) page ≡ high ++ (t.cells ++ zeros) =
    sym (drop-drop (9 + len) 128 page) ∙ ap (drop (9 + len)) at_low ∙ drop_at low (high ++ (t.cells ++ zeros)) (9 + len) (length-bound_bytes len node.low t.low) in
    let next : cells_at len ≡ high_at len + (9 + len) = omega arith in
    let at_cells : drop (cells_at len) page ≡ t.cells ++ zeros =
    ap (λ n. drop n page) next ∙ sym (drop-drop (9 + len) (high_at len) page) ∙ ap (drop (9 + len)) at_high ∙ drop_at high (t.cells ++ zeros) (9 + len) (length-bound_bytes len node.high t.high) in
    record {
      told = ap header_of t.text ∙ written_is_read header rest t.fields;
      first = ap (λ ys. get_or ys 0 0) t.text;
      grammar = ap has_header t.text ∙ written_is_in_grammar header rest (written_kind node.leaf);
      low = at_low;
      high = at_high;
      cells = at_cells;
      end = sym (drop-drop most (cells_at len) page) ∙ ap (drop most) at_cells ∙ drop_at t.cells zeros most t.long;
    }

leaf_is : (node : NodeValue) (page : List ℕ) → get_or page 0 0 ≡ number_of (cond node.leaf Leaf Inner) → is_leaf_in page ≡ node.leaf
leaf_is node page first = ap (λ n. eqb n 5) first ∙ leaf_number node.leaf

-- it shows the node
value_in-text : (position : ℕ) (node : NodeValue) (page : List ℕ) → IsText position node page → value_in page ≡ node
unfolding value_in
value_in-text position node page t =
    let at = places position node page t in
    let has = fields_are page (header_in position node) at.told in
    let len = get_or page 24 0 in
    let leaf = leaf_is node page at.first in
    let zeros : List ℕ = replicate t.zeros 0 in
    same_node (value_in page) node has.file has.index leaf has.key_len
    (ap (λ n. bound_at n 128 page) has.key_len ∙ bound_at-bytes node.key_len 128 node.low page (bound_bytes node.key_len node.high ++ (t.cells ++ zeros)) t.low at.low)
    (ap (λ n. bound_at n (high_at n) page) has.key_len ∙ bound_at-bytes node.key_len (high_at node.key_len) node.high page (t.cells ++ zeros) t.high at.high)
    has.right
    (ap (λ n. entries_of n (is_leaf_in page) (u16_at 6 page) (drop (cells_at n) page)) has.key_len
    ∙ ap (λ b. entries_of node.key_len b (u16_at 6 page) (drop (cells_at node.key_len) page)) leaf
    ∙ ap (λ n. entries_of node.key_len node.leaf n (drop (cells_at node.key_len) page)) has.count
    ∙ ap (entries_of node.key_len node.leaf (length node.entries)) at.cells
    ∙ t.entries zeros)

header_text : (position : ℕ) (node : NodeValue) (page : List ℕ) → IsText position node page → HasNodeHeader page
header_text position node page t =
    let at = places position node page t in
    let has = fields_are page (header_in position node) at.told in
    let leaf = leaf_is node page at.first in
    let is = t.is in
    let room = is.room in
    let most : capacity_of (get_or page 24 0) (is_leaf_in page) ≡ capacity_of node.key_len node.leaf = ap (λ n. capacity_of n (is_leaf_in page)) has.key_len ∙ ap (capacity_of node.key_len) leaf in
    record {
      grammar = at.grammar;
      kind = ap is_node_kind at.first ∙ node_number node.leaf;
      some_key = subst (λ n. 1 ≤ n) (sym has.key_len) is.some_key;
      short_key = subst (λ n. n ≤ 128) (sym has.key_len) is.short_key;
      room = subst (λ n. u16_at 6 page ≤ n) (sym most) (subst (λ n. n ≤ capacity_of node.key_len node.leaf) (sym has.count) room);
    }

parts_text : (position : ℕ) (node : NodeValue) (page : List ℕ) → IsText position node page → HasParts page
parts_text position node page t =
    let at = places position node page t in
    let has = fields_are page (header_in position node) at.told in
    let leaf = leaf_is node page at.first in
    let value = value_in-text position node page t in
    let is = t.is in
    let zeros : List ℕ = replicate t.zeros 0 in
    let width : width_of (get_or page 24 0) (is_leaf_in page) ≡ width_of node.key_len node.leaf = ap (λ n. width_of n (is_leaf_in page)) has.key_len ∙ ap (width_of node.key_len) leaf in
    let end : cells_end page ≡ cells_at node.key_len + length node.entries * width_of node.key_len node.leaf =
    ap (λ w. cells_at (get_or page 24 0) + u16_at 6 page * w) width
    ∙ ap (λ n. cells_at n + u16_at 6 page * width_of node.key_len node.leaf) has.key_len
    ∙ ap (λ n. cells_at node.key_len + n * width_of node.key_len node.leaf) has.count in
    record {
      header = header_from_parts page (header_text position node page t);
      low = subst (λ n. is_bound n 128 page ≡ true) (sym has.key_len) (is_bound-bytes node.key_len 128 node.low page (bound_bytes node.key_len node.high ++ (t.cells ++ zeros)) at.low);
      high = subst (λ n. is_bound n (high_at n) page ≡ true) (sym has.key_len) (is_bound-bytes node.key_len (high_at node.key_len) node.high page (t.cells ++ zeros) at.high);
      order = subst (λ (v : NodeValue). rises (pairs_in v) ≡ true) (sym value) (rises-IsAscending (pairs_in node) is.order);
      within = subst (λ (v : NodeValue). list_all (is_within v.low v.high) (pairs_in v) ≡ true) (sym value) (list_all-from_AllPass (is_within node.low node.high) (pairs_in node) is.bounds);
      zeros = ap are_zero (ap (λ n. drop n page) end ∙ at.end) ∙ are_zero-replicate t.zeros;
    }

-- and is the node's page
pub node_in-text : (position : ℕ) (node : NodeValue) (page : List ℕ) → IsText position node page → node_in page ≡ Some node
node_in-text position node page t = node_in-is page (page_from_parts page (parts_text position node page t)) ∙ ap Some (value_in-text position node page t)

-- the bytes of the cells of a node
abbrev cells_text : Inside → List ℕ
cells_text n = take (n.count * width_of n.key_len n.leaf) n.cells

-- the page of a node, by its fields
abbrev text_of : ℕ → Inside → List ℕ
text_of position n =
    header_bytes (header_in position (value_of n)) ++ (bound_bytes n.key_len (value_of n).low ++ (bound_bytes n.key_len (value_of n).high ++ (cells_text n ++ replicate (3968 - 2 * (9 + n.key_len) - n.count * width_of n.key_len n.leaf) 0)))

-- the cells of a node end within its page
pub end_inside : (n : Inside) (width : ℕ) → IsNode (value_of n) → width ≡ width_of n.key_len n.leaf → cells_at n.key_len + n.count * width ≤ 4096
end_inside n width is wide =
    let count = length-entries_of n.key_len n.leaf n.count n.cells in
    let room = is.room in
    let end = room_behind n.key_len n.leaf n.count is.short_key (omega arith) in
    subst (λ w. cells_at n.key_len + n.count * w ≤ 4096) (sym wide) end

-- the writes of a page, with what each place is
pub record IsWritten (position : ℕ) (n : Inside) (new : List ℕ) : Type 0 where
  pub width : ℕ
  pub at_high : ℕ
  pub at_cells : ℕ
  pub header : Header
  pub old : List ℕ
  pub first : List ℕ
  pub second : List ℕ
  pub third : List ℕ
  pub fourth : List ℕ
  pub is : IsNode (value_of n)
  pub cells_long : length n.cells ≡ 3968
  pub old_long : length old ≡ 4096
  pub is_width : width ≡ width_of n.key_len n.leaf
  pub is_high : at_high ≡ high_at n.key_len
  pub is_cells : at_cells ≡ cells_at n.key_len
  pub is_header : header ≡ header_in position (value_of n)
  pub fields : IsTrue (has_fields (header_in position (value_of n)))
  pub low : IsFitting n.key_len (value_of n).low
  pub high : IsFitting n.key_len (value_of n).high
  pub one : first ≡ header_bytes header ++ drop 128 old
  pub two : second ≡ with_bytes 128 (bound_bytes n.key_len (value_of n).low) first
  pub three : third ≡ with_bytes at_high (bound_bytes n.key_len (value_of n).high) second
  pub four : fourth ≡ with_bytes at_cells (take (n.count * width) n.cells) third
  pub five : new ≡ take (at_cells + n.count * width) fourth ++ replicate (4096 - (at_cells + n.count * width)) 0

-- they make its page
text_written : (position : ℕ) (n : Inside) (new : List ℕ) → IsWritten position n new → new ≡ text_of position n
text_written position n new w =
    let full = width_of n.key_len n.leaf in
    let end = end_inside n (width_of n.key_len n.leaf) w.is refl in
    let long = w.cells_long in
    let at = w.at_cells in
    let low = bound_bytes n.key_len (value_of n).low in
    let high = bound_bytes n.key_len (value_of n).high in
    parts_written (header_bytes (header_in position (value_of n))) low high (cells_text n) n.key_len (n.count * width_of n.key_len n.leaf) w.old w.first w.second w.third w.fourth new
    refl (length-bound_bytes n.key_len (value_of n).low w.low) (length-bound_bytes n.key_len (value_of n).high w.high) (length-take-le (n.count * width_of n.key_len n.leaf) n.cells (omega arith)) w.old_long end
    (w.one ∙ ap (λ h. header_bytes h ++ drop 128 w.old) w.is_header)
    w.two
    (w.three ∙ ap (λ place. with_bytes place high w.second) w.is_high)
    (w.four ∙ ap (λ place. with_bytes place (take (n.count * w.width) n.cells) w.third) w.is_cells ∙ ap (λ width. with_bytes (cells_at n.key_len) (take (n.count * width) n.cells) w.third) w.is_width)
    (w.five ∙ ap (λ place. take (place + n.count * w.width) w.fourth ++ replicate (4096 - (place + n.count * w.width)) 0) w.is_cells ∙ ap (λ width. take (cells_at n.key_len + n.count * width) w.fourth ++ replicate (4096 - (cells_at n.key_len + n.count * width)) 0) w.is_width)

-- which is its text
page_text-inside : (position : ℕ) (n : Inside) → AreBytes n.cells → length n.cells ≡ 3968 → IsNode (value_of n) → text_of position n ≡ page_text position (value_of n)
unfolding page_text
page_text-inside position n bytes long is =
    let width = width_of n.key_len n.leaf in
    let header = header_bytes (header_in position (value_of n)) in
    let low = bound_bytes n.key_len (value_of n).low in
    let high = bound_bytes n.key_len (value_of n).high in
    let end = end_inside n (width_of n.key_len n.leaf) is refl in
    let cells : cells_text n ≡ flat_map (entry_bytes n.leaf) (value_of n).entries = sym (entries_bytes n.key_len n.leaf n.count n.cells bytes (omega arith)) in
    let count : n.count ≡ length (value_of n).entries = sym (length-entries_of n.key_len n.leaf n.count n.cells) in
    let zeros : List ℕ = replicate (room_in (value_of n)) 0 in
    let body = flat_map (entry_bytes n.leaf) (value_of n).entries in
    ap (λ text. header ++ (low ++ (high ++ (text ++ replicate (3968 - 2 * (9 + n.key_len) - n.count * width) 0)))) cells
    ∙ ap (λ k. header ++ (low ++ (high ++ (body ++ replicate (3968 - 2 * (9 + n.key_len) - k * width) 0)))) count
    ∙ sym (append_assoc header low (high ++ (body ++ zeros)))
    ∙ sym (append_assoc (header ++ low) high (body ++ zeros))
    ∙ sym (append_assoc ((header ++ low) ++ high) body zeros)

pub page_written : (position : ℕ) (n : Inside) (new : List ℕ) → AreBytes n.cells → IsWritten position n new → new ≡ page_text position (value_of n)
page_written position n new bytes w = text_written position n new w ∙ page_text-inside position n bytes w.cells_long w.is

-- and shows the node
pub node_in-written : (position : ℕ) (n : Inside) (new : List ℕ) → IsWritten position n new → node_in new ≡ Some (value_of n)
node_in-written position n new w =
    let most = n.count * width_of n.key_len n.leaf in
    let end = end_inside n (width_of n.key_len n.leaf) w.is refl in
    let long = w.cells_long in
    let fits : n.count * width_of n.key_len n.leaf ≤ length n.cells = omega arith in
    let cells = length-take-le (n.count * width_of n.key_len n.leaf) n.cells fits in
    let count : length (value_of n).entries ≡ n.count = length-entries_of n.key_len n.leaf n.count n.cells in
    node_in-text position (value_of n) new (record {
      cells = cells_text n;
      zeros = 3968 - 2 * (9 + n.key_len) - n.count * width_of n.key_len n.leaf;
      text = text_written position n new w;
      fields = w.fields;
      low = w.low;
      high = w.high;
      is = w.is;
      long = cells ∙ ap (λ k. k * width_of n.key_len n.leaf) (sym count);
      entries = λ rest. ap (λ k. entries_of n.key_len n.leaf k (cells_text n ++ rest)) count ∙ entries_of-same n.key_len n.leaf n.count n.cells (cells_text n ++ rest) (take_at (cells_text n) rest most cells) fits;
    })
