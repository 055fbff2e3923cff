-- A page with another position shows the same node.
use Rattle.std.proofs.Common.{◌≡◌, ◌≢◌, ℕ, ◌+◌, ◌-◌, ◌*◌, ◌≤◌, true, false, ◌&&◌, ◌||◌, cond, eqb, leb, List, get_or, take, drop, Some, None, refl, sym, ap, ◌∙◌, ⊎_elim, inl, inr, arith}
use Rattle.std.proofs.lemmas.Bool.{false≢true, cases_Bool, and_right}
use Rattle.std.proofs.lemmas.List.{get_or-drop, drop-drop}
use Rattle.ct_page.specs.Fields.{u16_at, u64_at, with_u64, are_zero}
use Rattle.ct_page.specs.Headers.{IsPage, has_header, with_position}
use Rattle.ct_page.proofs.Numbers.{u16_at-with_u64_apart, u64_at-with_u64_apart}
use Rattle.ct_page.proofs.Positions.{behind_kept, byte_kept, grammar_kept}
use Rattle.ct_node.specs.Nodes.{NodeValue, width_of, capacity_of}
use Rattle.ct_node.specs.Cells.{pair_at, entries_of}
use Rattle.ct_node.specs.Pages.{is_node_kind, is_key_len, is_node_of_keys, is_leaf_in, high_at, cells_at, cells_end, is_bound, bound_at, has_bounds, value_in, is_in_order, has_node_header, is_node_page, node_in, page_text}
use Rattle.ct_node.proofs.PageLemmas.{same_node}

-- another page with the same fields but the position, and the same bytes behind
record IsLike (page other : List ℕ) : Type 0 where
  pub tail : drop 16 other ≡ drop 16 page
  pub kind : get_or other 0 0 ≡ get_or page 0 0
  pub file : u16_at 2 other ≡ u16_at 2 page
  pub index : u16_at 4 other ≡ u16_at 4 page
  pub count : u16_at 6 other ≡ u16_at 6 page
  pub right : u64_at 16 other ≡ u64_at 16 page
  pub header : get_or page 0 0 ≢ 0 → has_header other ≡ has_header page

byte_like : (page other : List ℕ) → IsLike page other → (i : ℕ) → 16 ≤ i → get_or other i 0 ≡ get_or page i 0
byte_like page other like i past =
    let sum : i ≡ 16 + (i - 16) = omega arith in
    ap (λ n. get_or other n 0) sum ∙ sym (get_or-drop 16 other (i - 16) 0) ∙ ap (λ ys. get_or ys (i - 16) 0) like.tail ∙ get_or-drop 16 page (i - 16) 0 ∙ ap (λ n. get_or page n 0) (sym sum)

part_like : (page other : List ℕ) → IsLike page other → (i : ℕ) → 16 ≤ i → drop i other ≡ drop i page
part_like page other like i past =
    let sum : i ≡ 16 + (i - 16) = omega arith in
    ap (λ n. drop n other) sum ∙ sym (drop-drop (i - 16) 16 other) ∙ ap (drop (i - 16)) like.tail ∙ drop-drop (i - 16) 16 page ∙ ap (λ n. drop n page) (sym sum)

bound_like : (page other : List ℕ) → IsLike page other → (key_len at : ℕ) → 16 ≤ at → bound_at key_len at other ≡ bound_at key_len at page
bound_like page other like key_len at past =
    ap (λ n. cond (eqb n 0) None (Some (pair_at key_len (drop (at + 1) other)))) (byte_like page other like at past)
    ∙ ap (λ ys. cond (eqb (get_or page at 0) 0) None (Some (pair_at key_len ys))) (part_like page other like (at + 1) (omega arith))

is_bound_like : (page other : List ℕ) → IsLike page other → (key_len at : ℕ) → 16 ≤ at → is_bound key_len at other ≡ is_bound key_len at page
is_bound_like page other like key_len at past =
    ap (λ n. eqb n 1 || are_zero (take (9 + key_len) (drop at other))) (byte_like page other like at past)
    ∙ ap (λ ys. eqb (get_or page at 0) 1 || are_zero (take (9 + key_len) ys)) (part_like page other like at past)

value_like : (page other : List ℕ) → IsLike page other → value_in other ≡ value_in page
unfolding value_in
value_like page other like =
    let key : get_or other 24 0 ≡ get_or page 24 0 = byte_like page other like 24 (omega arith) in
    let leaf : is_leaf_in other ≡ is_leaf_in page = ap (λ n. eqb n 5) like.kind in
    let len = get_or page 24 0 in
    same_node (value_in other) (value_in page) like.file like.index leaf key
    (ap (λ n. bound_at n 128 other) key ∙ bound_like page other like len 128 (omega arith))
    (ap (λ n. bound_at n (high_at n) other) key ∙ bound_like page other like len (high_at len) (omega arith))
    like.right
    (ap (λ n. entries_of n (is_leaf_in other) (u16_at 6 other) (drop (cells_at n) other)) key
    ∙ ap (λ b. entries_of len b (u16_at 6 other) (drop (cells_at len) other)) leaf
    ∙ ap (λ n. entries_of len (is_leaf_in page) n (drop (cells_at len) other)) like.count
    ∙ ap (entries_of len (is_leaf_in page) (u16_at 6 page)) (part_like page other like (cells_at len) (omega arith)))

kind_like : (page other : List ℕ) → IsLike page other → (has_header other && is_node_kind (get_or other 0 0)) ≡ (has_header page && is_node_kind (get_or page 0 0))
kind_like page other like = ⊎_elim node none (cases_Bool (is_node_kind (get_or page 0 0)))
  where
    node : is_node_kind (get_or page 0 0) ≡ true → (has_header other && is_node_kind (get_or other 0 0)) ≡ (has_header page && is_node_kind (get_or page 0 0))
    node is =
        ap (λ n. has_header other && is_node_kind n) like.kind
        ∙ ap (λ b. b && is_node_kind (get_or page 0 0)) (like.header (λ zero. false≢true (sym (ap is_node_kind zero) ∙ is)))

    none : is_node_kind (get_or page 0 0) ≡ false → (has_header other && is_node_kind (get_or other 0 0)) ≡ (has_header page && is_node_kind (get_or page 0 0))
    none is = and_right (has_header other) (is_node_kind (get_or other 0 0)) (ap is_node_kind like.kind ∙ is) ∙ sym (and_right (has_header page) (is_node_kind (get_or page 0 0)) is)

header_like : (page other : List ℕ) → IsLike page other → has_node_header other ≡ has_node_header page
unfolding has_node_header
header_like page other like =
    let key : get_or other 24 0 ≡ get_or page 24 0 = byte_like page other like 24 (omega arith) in
    ap (λ b. (b && is_key_len (get_or other 24 0)) && leb (u16_at 6 other) (capacity_of (get_or other 24 0) (is_leaf_in other))) (kind_like page other like)
    ∙ ap (λ n. (has_header page && is_node_kind (get_or page 0 0) && is_key_len n) && leb (u16_at 6 other) (capacity_of n (is_leaf_in other))) key
    ∙ ap (λ n. is_node_of_keys page && leb n (capacity_of (get_or page 24 0) (is_leaf_in other))) like.count
    ∙ ap (λ n. is_node_of_keys page && leb (u16_at 6 page) (capacity_of (get_or page 24 0) (eqb n 5))) like.kind

bounds_like : (page other : List ℕ) → IsLike page other → has_bounds other ≡ has_bounds page
bounds_like page other like =
    let len = get_or page 24 0 in
    ap (λ n. is_bound n 128 other && is_bound n (high_at n) other) (byte_like page other like 24 (omega arith))
    ∙ ap (λ b. b && is_bound len (high_at len) other) (is_bound_like page other like len 128 (omega arith))
    ∙ ap (λ b. is_bound len 128 page && b) (is_bound_like page other like len (high_at len) (omega arith))

zeros_like : (page other : List ℕ) → IsLike page other → drop (cells_end other) other ≡ drop (cells_end page) page
zeros_like page other like =
    let len = get_or page 24 0 in
    let leaf = is_leaf_in other in
    ap (λ n. drop (cells_at n + u16_at 6 other * width_of n leaf) other) (byte_like page other like 24 (omega arith))
    ∙ ap (λ n. drop (cells_at len + n * width_of len leaf) other) like.count
    ∙ ap (λ n. drop (cells_at len + u16_at 6 page * width_of len (eqb n 5)) other) like.kind
    ∙ part_like page other like (cells_end page) (omega arith)

page_like : (page other : List ℕ) → IsLike page other → is_node_page other ≡ is_node_page page
unfolding is_node_page
page_like page other like =
    ap (λ b. b && has_bounds other && is_in_order (value_in other) && are_zero (drop (cells_end other) other)) (header_like page other like)
    ∙ ap (λ b. has_node_header page && b && is_in_order (value_in other) && are_zero (drop (cells_end other) other)) (bounds_like page other like)
    ∙ ap (λ (v : NodeValue). has_node_header page && has_bounds page && is_in_order v && are_zero (drop (cells_end other) other)) (value_like page other like)
    ∙ ap (λ ys. has_node_header page && has_bounds page && is_in_order (value_in page) && are_zero ys) (zeros_like page other like)

repositioned : (position : ℕ) (page : List ℕ) → IsPage page → IsLike page (with_position position page)
repositioned position page is =
    let long = is.len in
    record {
      tail = behind_kept position page is;
      kind = byte_kept 0 position page is (omega arith);
      file = u16_at-with_u64_apart 8 2 position page (omega arith) (inr (omega arith));
      index = u16_at-with_u64_apart 8 4 position page (omega arith) (inr (omega arith));
      count = u16_at-with_u64_apart 8 6 position page (omega arith) (inr (omega arith));
      right = u64_at-with_u64_apart 8 16 position page (omega arith) (inl (omega arith));
      header = grammar_kept position page is;
    }

pub node_in-repositioned : (position : ℕ) (page : List ℕ) → IsPage page → node_in (with_position position page) ≡ node_in page
node_in-repositioned position page is =
    let other = with_position position page in
    let like = repositioned position page is in
    ap (λ b. cond b (Some (value_in other)) None) (page_like page other like) ∙ ap (λ v. cond (is_node_page page) (Some v) None) (value_like page other like)

pub page_text-repositioned : (position other : ℕ) (node : NodeValue) → with_position position (page_text other node) ≡ page_text position node
unfolding page_text with_u64
page_text-repositioned position other node = refl
