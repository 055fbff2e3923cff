-- The node that is read from a page is what the page shows.
use Rattle.std.proofs.Common.{◌≡◌, ℕ, ◌+◌, ◌*◌, ◌≤◌, Bool, true, false, cond, eqb, List, ◌++◌, length, get_or, take, drop, replicate, Some, None, refl, sym, ap, subst, ◌∙◌, ⊎_elim, arith}
use Rattle.std.specs.Prelude.{option_map}
use Rattle.std.specs.List.{flat_map}
use Rattle.std.proofs.lemmas.Bool.{or_cases, eqb-true}
use Rattle.std.proofs.lemmas.List.{length-drop, take-append-le, take-append-drop, drop-drop, append_assoc}
use Rattle.ct_page.specs.declared.kind.PageKind.TheVariants.{Leaf, Inner}
use Rattle.ct_page.specs.Fields.{u16_at, u64_at, are_zero}
use Rattle.ct_page.specs.Kinds.{kind_of}
use Rattle.ct_page.specs.Headers.{IsPage, header_bytes, header_of}
use Rattle.ct_page.proofs.HeaderLemmas.{header_is, read_is_written}
use Rattle.ct_page.proofs.Zeros.{zeros_are}
use Rattle.ct_node.specs.Nodes.{NodeValue, IsNode, width_of}
use Rattle.ct_node.specs.Cells.{entries_of, entry_bytes}
use Rattle.ct_node.specs.Stored.{value_of, edge_pair}
use Rattle.ct_node.specs.Pages.{is_node_kind, is_leaf_in, high_at, cells_at, cells_end, bound_at, value_in, bound_bytes, header_in, room_in, page_text, is_node_page, node_in}
use Rattle.ct_node.specs.declared.node.Node.TheInside.{Inside}
use Rattle.ct_node.proofs.Entries.{length-entries_of}
use Rattle.ct_node.proofs.Spellings.{AreBytes-drop, entries_of-same, entries_bytes, bound_bytes-at}
use Rattle.ct_node.proofs.PageLemmas.{page_parts, IsNode-value_in, HasNodeHeader, HasParts, header_parts, end_within, body_within, same_node}

-- the fields of a node that was read from a page
pub record IsRead (page : List ℕ) (n : Inside) : Type 0 where
  pub file : n.file ≡ u16_at 2 page
  pub index : n.index ≡ u16_at 4 page
  pub leaf : n.leaf ≡ is_leaf_in page
  pub key_len : n.key_len ≡ get_or page 24 0
  pub low : option_map (edge_pair n.key_len) n.low ≡ bound_at n.key_len 128 page
  pub high : option_map (edge_pair n.key_len) n.high ≡ bound_at n.key_len (high_at n.key_len) page
  pub right : n.right ≡ u64_at 16 page
  pub count : n.count ≡ u16_at 6 page
  pub rest : List ℕ
  pub cells : n.cells ≡ drop (cells_at n.key_len) page ++ rest

-- the entries of such a node
entries_read : (page : List ℕ) (n : Inside) → length page ≡ 4096 → HasNodeHeader page → IsRead page n → entries_of n.key_len n.leaf n.count n.cells ≡ (value_in page).entries
unfolding value_in
entries_read page n long has is =
    let within : cells_at n.key_len + n.count * width_of n.key_len n.leaf ≤ 4096 = body_within page n.key_len n.count (width_of n.key_len n.leaf) n.leaf has is.key_len is.count refl is.leaf in
    let behind = length-drop (cells_at n.key_len) page in
    let fits : n.count * width_of n.key_len n.leaf ≤ length (drop (cells_at n.key_len) page) = omega arith in
    ap (entries_of n.key_len n.leaf n.count) is.cells
    ∙ entries_of-same n.key_len n.leaf n.count (drop (cells_at n.key_len) page) (drop (cells_at n.key_len) page ++ is.rest) (take-append-le (n.count * width_of n.key_len n.leaf) (drop (cells_at n.key_len) page) is.rest fits) fits
    ∙ ap (λ len. entries_of len n.leaf n.count (drop (cells_at len) page)) is.key_len
    ∙ ap (λ leaf. entries_of (get_or page 24 0) leaf n.count (drop (cells_at (get_or page 24 0)) page)) is.leaf
    ∙ ap (λ count. entries_of (get_or page 24 0) (is_leaf_in page) count (drop (cells_at (get_or page 24 0)) page)) is.count

pub value_of-read : (page : List ℕ) (n : Inside) → length page ≡ 4096 → HasNodeHeader page → IsRead page n → value_of n ≡ value_in page
unfolding value_in
value_of-read page n long has is =
    same_node (value_of n) (value_in page) is.file is.index is.leaf is.key_len
    (is.low ∙ ap (λ len. bound_at len 128 page) is.key_len)
    (is.high ∙ ap (λ len. bound_at len (high_at len) page) is.key_len)
    is.right (entries_read page n long has is)

-- the kind that a node's page says
kind_read : (n : ℕ) → is_node_kind n ≡ true → kind_of n ≡ Some (cond (eqb n 5) Leaf Inner)
kind_read n is = ⊎_elim (λ five. told 5 (eqb-true n 5 five) refl) (λ six. told 6 (eqb-true n 6 six) refl) (or_cases (eqb n 5) (eqb n 6) is)
  where
    told : (m : ℕ) → n ≡ m → kind_of m ≡ Some (cond (eqb m 5) Leaf Inner) → kind_of n ≡ Some (cond (eqb n 5) Leaf Inner)
    told m same tells = subst (λ k. kind_of k ≡ Some (cond (eqb k 5) Leaf Inner)) (sym same) tells

-- bytes from a place on are the first of them and the rest
piece : (n at : ℕ) (page : List ℕ) → take n (drop at page) ++ drop (at + n) page ≡ drop at page
piece n at page = ap (λ ys. take n (drop at page) ++ ys) (sym (drop-drop n at page)) ∙ take-append-drop n (drop at page)

-- the parts of the body are the page behind its header
body_read : (key_len len : ℕ) (page low high cells zeros : List ℕ) → low ≡ take (9 + key_len) (drop 128 page) → high ≡ take (9 + key_len) (drop (high_at key_len) page) → cells ≡ take len (drop (cells_at key_len) page) → zeros ≡ drop (cells_at key_len + len) page → low ++ (high ++ (cells ++ zeros)) ≡ drop 128 page
body_read key_len len page low high cells zeros is_low is_high is_cells is_zeros =
    let next : high_at key_len + (9 + key_len) ≡ cells_at key_len = omega arith in
    let end : cells ++ zeros ≡ drop (cells_at key_len) page = ap (λ xs. xs ++ zeros) is_cells ∙ ap (λ ys. take len (drop (cells_at key_len) page) ++ ys) is_zeros ∙ piece len (cells_at key_len) page in
    let middle : high ++ (cells ++ zeros) ≡ drop (high_at key_len) page =
    ap (λ ys. high ++ ys) (end ∙ ap (λ n. drop n page) (sym next)) ∙ ap (λ xs. xs ++ drop (high_at key_len + (9 + key_len)) page) is_high ∙ piece (9 + key_len) (high_at key_len) page in
    ap (λ ys. low ++ ys) middle ∙ ap (λ xs. xs ++ drop (high_at key_len) page) is_low ∙ piece (9 + key_len) 128 page

-- the bounds are written as they were read, and so are the entries and the zeros
bounds_within : (page : List ℕ) → length page ≡ 4096 → get_or page 24 0 ≤ 128 → high_at (get_or page 24 0) + (9 + get_or page 24 0) ≤ length page
bounds_within page long short = omega arith

zeros_read : (page : List ℕ) → length page ≡ 4096 → HasNodeHeader page → are_zero (drop (cells_end page) page) ≡ true → replicate (room_in (value_in page)) 0 ≡ drop (cells_end page) page
unfolding value_in
zeros_read page long has zeros =
    let key_len = get_or page 24 0 in
    let width = width_of (get_or page 24 0) (is_leaf_in page) in
    let end = end_within page has in
    let count = length-entries_of (get_or page 24 0) (is_leaf_in page) (u16_at 6 page) (drop (cells_at (get_or page 24 0)) page) in
    let many : length (value_in page).entries * width_of (get_or page 24 0) (is_leaf_in page) ≡ u16_at 6 page * width_of (get_or page 24 0) (is_leaf_in page) = ap (λ n. n * width) count in
    let behind = length-drop (cells_end page) page in
    let left : room_in (value_in page) ≡ length (drop (cells_end page) page) = omega arith in
    ap (λ n. replicate n 0) left ∙ sym (zeros_are (drop (cells_end page) page) zeros)

-- a page is the text of what it shows, with its own position
pub page_text-value_in : (page : List ℕ) → IsPage page → HasParts page → page_text (u64_at 8 page) (value_in page) ≡ page
unfolding page_text value_in
page_text-value_in page is has =
    let header = header_parts page has.header in
    let shown = header_in (u64_at 8 page) (value_in page) in
    let key_len = get_or page 24 0 in
    let leaf = is_leaf_in page in
    let most = u16_at 6 page * width_of (get_or page 24 0) (is_leaf_in page) in
    let long = is.len in
    let within = bounds_within page is.len header.short_key in
    let end = end_within page header in
    let behind = length-drop (cells_at (get_or page 24 0)) page in
    let low = bound_bytes key_len (value_in page).low in
    let high = bound_bytes key_len (value_in page).high in
    let cells = flat_map (entry_bytes leaf) (value_in page).entries in
    let zeros : List ℕ = replicate (room_in (value_in page)) 0 in
    let count = length-entries_of (get_or page 24 0) (is_leaf_in page) (u16_at 6 page) (drop (cells_at (get_or page 24 0)) page) in
    let told : header_of page ≡ Some shown = header_is page shown (kind_read (get_or page 0 0) header.kind) refl refl (sym count) refl refl refl in
    append_assoc ((header_bytes shown ++ low) ++ high) cells zeros
    ∙ append_assoc (header_bytes shown ++ low) high (cells ++ zeros)
    ∙ append_assoc (header_bytes shown) low (high ++ (cells ++ zeros))
    ∙ ap (λ ys. header_bytes shown ++ ys) (body_read key_len most page low high cells zeros
    (bound_bytes-at key_len 128 page is.bytes (omega arith) has.low)
    (bound_bytes-at key_len (high_at key_len) page is.bytes within has.high)
    (entries_bytes key_len leaf (u16_at 6 page) (drop (cells_at key_len) page) (AreBytes-drop (cells_at key_len) page is.bytes) (omega arith))
    (zeros_read page is.len header has.zeros))
    ∙ read_is_written page shown is header.grammar told

-- a page that shows a node is in the grammar, and shows that one
shows : (is : Bool) (value node : NodeValue) → cond is (Some value) None ≡ Some node → (is ≡ true) × (value ≡ node)
shows true value node told = (refl, cc)
shows false value node told = absurd cc

pub IsNode-node_in : (page : List ℕ) (node : NodeValue) → node_in page ≡ Some node → IsNode node
IsNode-node_in page node told =
    let shown = shows (is_node_page page) (value_in page) node told in
    subst IsNode shown.1 (IsNode-value_in page (page_parts page shown.0))

pub page_text-node_in : (page : List ℕ) (node : NodeValue) → IsPage page → node_in page ≡ Some node → page_text (u64_at 8 page) node ≡ page
page_text-node_in page node is told =
    let shown = shows (is_node_page page) (value_in page) node told in
    ap (page_text (u64_at 8 page)) (sym shown.1) ∙ page_text-value_in page is (page_parts page shown.0)
