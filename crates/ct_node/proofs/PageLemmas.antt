-- Pages of nodes: what the tests of the grammar say, and what the page of a node shows.
use Rattle.std.proofs.Common.{◌≡◌, ℕ, ◌+◌, ◌-◌, ◌*◌, ◌/◌, ◌≤◌, Bool, true, false, ◌&&◌, cond, leb, List, get_or, drop, refl, sym, ap, ◌∙◌, arith, subst, Some, None, IsSome}
use Rattle.std.specs.List.{list_all}
use Rattle.std.proofs.Math.Nat.{mul-le-mul_left, mul_comm}
use Rattle.std.proofs.lemmas.Bool.{false≢true, and_parts, and_from, leb-true, le-leb}
use Rattle.std.proofs.lemmas.List.Sums.{AllPass-from_list_all}
use Rattle.ct_page.specs.Fields.{u16_at, are_zero}
use Rattle.ct_page.specs.Headers.{has_header}
use Rattle.ct_node.specs.Nodes.{NodeValue, IsNode, pairs_in, width_of, capacity_of, is_within}
use Rattle.ct_node.specs.Pages.{is_node_kind, is_key_len, is_node_of_keys, is_leaf_in, high_at, cells_at, cells_end, is_bound, bound_at, value_in, rises, is_in_order, has_node_header, has_bounds, is_node_page, node_in}
use Rattle.ct_node.proofs.Rising.{IsAscending-rises}
use Rattle.ct_node.proofs.Searches.{pairs_of}
use Rattle.ct_node.proofs.Entries.{pairs-entries_of, length-entries_of, width_of-bounds}

-- what a header in the grammar of nodes has
pub record HasNodeHeader (page : List ℕ) : Type 0 where
  pub grammar : has_header page ≡ true
  pub kind : is_node_kind (get_or page 0 0) ≡ true
  pub some_key : 1 ≤ get_or page 24 0
  pub short_key : get_or page 24 0 ≤ 128
  pub room : u16_at 6 page ≤ capacity_of (get_or page 24 0) (is_leaf_in page)

pub header_parts : (page : List ℕ) → has_node_header page ≡ true → HasNodeHeader page
unfolding has_node_header
header_parts page test =
    let room = and_parts (is_node_of_keys page) (leb (u16_at 6 page) (capacity_of (get_or page 24 0) (is_leaf_in page))) test in
    let keys = and_parts (has_header page && is_node_kind (get_or page 0 0)) (is_key_len (get_or page 24 0)) room.0 in
    let kind = and_parts (has_header page) (is_node_kind (get_or page 0 0)) keys.0 in
    let long = and_parts (leb 1 (get_or page 24 0)) (leb (get_or page 24 0) 128) keys.1 in
    record {
      grammar = kind.0;
      kind = kind.1;
      some_key = leb-true 1 (get_or page 24 0) long.0;
      short_key = leb-true (get_or page 24 0) 128 long.1;
      room = leb-true (u16_at 6 page) (capacity_of (get_or page 24 0) (is_leaf_in page)) room.1;
    }

pub header_from_parts : (page : List ℕ) → HasNodeHeader page → has_node_header page ≡ true
unfolding has_node_header
header_from_parts page has =
    and_from (is_node_of_keys page) (leb (u16_at 6 page) (capacity_of (get_or page 24 0) (is_leaf_in page)))
    (and_from (has_header page && is_node_kind (get_or page 0 0)) (is_key_len (get_or page 24 0))
    (and_from (has_header page) (is_node_kind (get_or page 0 0)) has.grammar has.kind)
    (and_from (leb 1 (get_or page 24 0)) (leb (get_or page 24 0) 128) (le-leb 1 (get_or page 24 0) has.some_key) (le-leb (get_or page 24 0) 128 has.short_key)))
    (le-leb (u16_at 6 page) (capacity_of (get_or page 24 0) (is_leaf_in page)) has.room)

-- as many cells as there is room for end within the page
pub room_behind : (key_len : ℕ) (leaf : Bool) (n : ℕ) → key_len ≤ 128 → n ≤ capacity_of key_len leaf → cells_at key_len + n * width_of key_len leaf ≤ 4096
room_behind key_len leaf n short fits =
    let width = width_of key_len leaf in
    let bounds = width_of-bounds key_len leaf in
    let room = 3968 - 2 * (9 + key_len) in
    let most : width * n ≤ width * (room / width) = mul-le-mul_left width fits in
    let turned : n * width ≡ width * n = mul_comm n width in
    omega arith

pub end_within : (page : List ℕ) → HasNodeHeader page → cells_end page ≤ 4096
end_within page has = room_behind (get_or page 24 0) (is_leaf_in page) (u16_at 6 page) has.short_key has.room

pub body_within : (page : List ℕ) (key_len count width : ℕ) (leaf : Bool) → HasNodeHeader page → key_len ≡ get_or page 24 0 → count ≡ u16_at 6 page → width ≡ width_of key_len leaf → leaf ≡ is_leaf_in page → cells_at key_len + count * width ≤ 4096
body_within page key_len count width leaf has keys counts wide kind =
    let full = width_of (get_or page 24 0) (is_leaf_in page) in
    let same : cells_at key_len + count * width ≡ cells_end page =
    ap (λ w. cells_at key_len + count * w) (wide ∙ ap (λ len. width_of len leaf) keys ∙ ap (width_of (get_or page 24 0)) kind)
    ∙ ap (λ n. cells_at key_len + n * full) counts
    ∙ ap (λ len. cells_at len + u16_at 6 page * full) keys in
    subst (λ n. n ≤ 4096) (sym same) (end_within page has)

-- what a page in the grammar of nodes has
pub record HasParts (page : List ℕ) : Type 0 where
  pub header : has_node_header page ≡ true
  pub low : is_bound (get_or page 24 0) 128 page ≡ true
  pub high : is_bound (get_or page 24 0) (high_at (get_or page 24 0)) page ≡ true
  pub order : rises (pairs_in (value_in page)) ≡ true
  pub within : list_all (is_within (value_in page).low (value_in page).high) (pairs_in (value_in page)) ≡ true
  pub zeros : are_zero (drop (cells_end page) page) ≡ true

pub page_parts : (page : List ℕ) → is_node_page page ≡ true → HasParts page
unfolding is_node_page
page_parts page test =
    let a = has_node_header page in
    let b = has_bounds page in
    let c = is_in_order (value_in page) in
    let d = are_zero (drop (cells_end page) page) in
    let three = and_parts (a && b && c) d test in
    let two = and_parts (a && b) c three.0 in
    let one = and_parts a b two.0 in
    let bounds = and_parts (is_bound (get_or page 24 0) 128 page) (is_bound (get_or page 24 0) (high_at (get_or page 24 0)) page) one.1 in
    let order = and_parts (rises (pairs_in (value_in page))) (list_all (is_within (value_in page).low (value_in page).high) (pairs_in (value_in page))) two.1 in
    record { header = one.0; low = bounds.0; high = bounds.1; order = order.0; within = order.1; zeros = three.1 }

pub page_from_parts : (page : List ℕ) → HasParts page → is_node_page page ≡ true
unfolding is_node_page
page_from_parts page has =
    let a = has_node_header page in
    let b = has_bounds page in
    let c = is_in_order (value_in page) in
    let d = are_zero (drop (cells_end page) page) in
    and_from (a && b && c) d
    (and_from (a && b) c
    (and_from a b has.header (and_from (is_bound (get_or page 24 0) 128 page) (is_bound (get_or page 24 0) (high_at (get_or page 24 0)) page) has.low has.high))
    (and_from (rises (pairs_in (value_in page))) (list_all (is_within (value_in page).low (value_in page).high) (pairs_in (value_in page))) has.order has.within))
    has.zeros

-- what a page in the grammar shows is a node
pub IsNode-value_in : (page : List ℕ) → HasParts page → IsNode (value_in page)
unfolding value_in
IsNode-value_in page has =
    let header = header_parts page has.header in
    let key_len = get_or page 24 0 in
    let count = length-entries_of key_len (is_leaf_in page) (u16_at 6 page) (drop (cells_at key_len) page) in
    let room = header.room in
    record {
      some_key = header.some_key;
      short_key = header.short_key;
      room = omega arith;
      order = IsAscending-rises (pairs_in (value_in page)) has.order;
      bounds = AllPass-from_list_all (is_within (value_in page).low (value_in page).high) (pairs_in (value_in page)) has.within;
    }

-- whether the bytes behind a header are those of a node with so many cells
abbrev pub has_body : ℕ → ℕ → ℕ → List ℕ → Bool
has_body key_len count width page =
    let pairs = pairs_of key_len width count (drop (cells_at key_len) page) in
    (is_bound key_len 128 page && is_bound key_len (high_at key_len) page) && (rises pairs && list_all (is_within (bound_at key_len 128 page) (bound_at key_len (high_at key_len) page)) pairs) && are_zero (drop (cells_at key_len + count * width) page)

-- a page with the header of a node is one where it has the body
pub is_node_page-body : (page : List ℕ) (is : Bool) (key_len count width : ℕ) (leaf : Bool) → has_node_header page ≡ true → is ≡ has_body key_len count width page → key_len ≡ get_or page 24 0 → count ≡ u16_at 6 page → width ≡ width_of key_len leaf → leaf ≡ is_leaf_in page → is ≡ is_node_page page
unfolding is_node_page value_in
is_node_page-body page is key_len count width leaf header tells keys counts wide kind =
    let k = get_or page 24 0 in
    let n = u16_at 6 page in
    let full = width_of (get_or page 24 0) (is_leaf_in page) in
    let widths : width ≡ width_of (get_or page 24 0) (is_leaf_in page) = wide ∙ ap (λ len. width_of len leaf) keys ∙ ap (width_of (get_or page 24 0)) kind in
    let pairs = pairs-entries_of (get_or page 24 0) (is_leaf_in page) (u16_at 6 page) (drop (cells_at (get_or page 24 0)) page) in
    tells
    ∙ ap (λ len. has_body len count width page) keys
    ∙ ap (λ many. has_body k many width page) counts
    ∙ ap (λ w. has_body k n w page) widths
    ∙ ap (λ ps. (is_bound k 128 page && is_bound k (high_at k) page) && (rises ps && list_all (is_within (bound_at k 128 page) (bound_at k (high_at k) page)) ps) && are_zero (drop (cells_at k + n * full) page)) (sym pairs)
    ∙ ap (λ b. b && has_bounds page && is_in_order (value_in page) && are_zero (drop (cells_end page) page)) (sym header)

-- and none without it
pub is_node_page-without : (page : List ℕ) → has_node_header page ≡ false → false ≡ is_node_page page
unfolding is_node_page
is_node_page-without page header = ap (λ b. b && has_bounds page && is_in_order (value_in page) && are_zero (drop (cells_end page) page)) (sym header)

-- a page that has a node is in the grammar
is_page : (is : Bool) (node : NodeValue) → IsSome (cond is (Some node) None) → is ≡ true
is_page true node known = refl
is_page false node known = absurd (false≢true known)

pub known_page : (page : List ℕ) → IsSome (node_in page) → HasParts page
known_page page known = page_parts page (is_page (is_node_page page) (value_in page) known)

pub node_in-is : (page : List ℕ) → is_node_page page ≡ true → node_in page ≡ Some (value_in page)
node_in-is page is = ap (λ b. cond b (Some (value_in page)) None) is

-- two nodes that agree in each field are one
pub same_node : (a b : NodeValue) → a.file ≡ b.file → a.index ≡ b.index → a.leaf ≡ b.leaf → a.key_len ≡ b.key_len → a.low ≡ b.low → a.high ≡ b.high → a.right ≡ b.right → a.entries ≡ b.entries → a ≡ b
same_node a b file index leaf key_len low high right entries =
    ap (λ x. record a { file = x }) file
    ∙ ap (λ x. record a { file = b.file; index = x }) index
    ∙ ap (λ x. record a { file = b.file; index = b.index; leaf = x }) leaf
    ∙ ap (λ x. record a { file = b.file; index = b.index; leaf = b.leaf; key_len = x }) key_len
    ∙ ap (λ x. record a { file = b.file; index = b.index; leaf = b.leaf; key_len = b.key_len; low = x }) low
    ∙ ap (λ x. record a { file = b.file; index = b.index; leaf = b.leaf; key_len = b.key_len; low = b.low; high = x }) high
    ∙ ap (λ x. record b { right = x; entries = a.entries }) right
    ∙ ap (λ x. record b { entries = x }) entries
