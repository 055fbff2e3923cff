-- Zeros are below every key of their length, and the first entry of an inner node below a separator within its bounds.
use Rattle.std.proofs.Common.{◌≡◌, ℕ, ◌/◌, ◌≤◌, Bool, true, false, cond, List, [], ◌∷◌, length, get_or, replicate, refl, sym, ap, ◌∙◌, arith, subst, ⊎_elim, Option, Some, None}
use Rattle.std.specs.Prelude.{nat_lt, ◌==◌, slice_get}
use Rattle.std.specs.List.{All}
use Rattle.std.specs.declared.cmp.Ordering.{Ordering}
use Rattle.std.specs.declared.cmp.Ordering.TheVariants.{Less, Equal, Greater}
use Rattle.std.specs.Ordering.{is_lt, nat_cmp, ordering_then}
use Rattle.std.specs.Cmp.Lexicographic.{slice_cmp}
use Rattle.std.proofs.lemmas.Bool.{cases_Bool, false≢true, false_from_ne_true, ltb-true, not-true}
use Rattle.std.proofs.lemmas.List.{length-map}
use Rattle.ct_definitions.specs.Pairs.{Pair}
use Rattle.ct_node.specs.Nodes.{NodeValue, IsNode, pair_in, pairs_in, is_from}
use Rattle.ct_node.specs.Halves.{middle_of}
use Rattle.ct_node.specs.Roles.{first_of}
use Rattle.ct_node.proofs.Orders.{below, same, same_back, same_below, below_same, below-trans, above}
use Rattle.ct_node.proofs.HalfLemmas.{middle_within}
use Rattle.ct_tree_laws.proofs.Cuts.{middle_pair, middle_told, middle_is}

least : (n : ℕ) → is_lt (nat_cmp n 0) ≡ false
least n = by_test (nat_lt n 0) (n == 0) (λ lower. absurd (let under = ltb-true n 0 lower in omega arith))
  where
    by_test : (lower one : Bool) → (lower ≡ true → ⊥) → is_lt (cond lower Less (cond one Equal Greater)) ≡ false
    by_test true one never = absurd (never refl)
    by_test false true never = refl
    by_test false false never = refl

then_not_less : (first second : Ordering) → is_lt first ≡ false → is_lt second ≡ false → is_lt (ordering_then first second) ≡ false
then_not_less Less second is also = is
then_not_less Equal second is also = also
then_not_less Greater second is also = refl

zeros_under : (key : List ℕ) → is_lt (slice_cmp nat_cmp key (replicate (length key) 0)) ≡ false
zeros_under [] = refl
zeros_under (byte ∷ key) = then_not_less (nat_cmp byte 0) (slice_cmp nat_cmp key (replicate (length key) 0)) (least byte) (zeros_under key)

pub zeros_least : (pair : Pair) (key_len : ℕ) → length pair.key ≡ key_len → below pair (first_of key_len None) ≡ false
zeros_least pair key_len key = subst (λ n. below pair (first_of n None) ≡ false) key (then_not_less (slice_cmp nat_cmp pair.key (replicate (length pair.key) 0)) (nat_cmp pair.num 0) (zeros_under pair.key) (least pair.num))

-- the pair that a node begins with is not above one that is at its low bound or above it
pub first_least : (key_len : ℕ) (low : Option Pair) (pair : Pair) → length pair.key ≡ key_len → is_from low pair ≡ true → below pair (first_of key_len low) ≡ false
first_least key_len None pair key from = zeros_least pair key_len key
first_least key_len (Some low) pair key from = not-true (below pair low) from

-- so it is below another one there
pub first_below : (key_len : ℕ) (low : Option Pair) (first pair : Pair) → same first (first_of key_len low) ≡ true → length pair.key ≡ key_len → is_from low pair ≡ true → same first pair ≡ false → below first pair ≡ true
first_below key_len low first pair begins key from other =
    above pair first
    (false_from_ne_true (below pair first) (λ lower. false≢true (sym (first_least key_len low pair key from) ∙ below_same pair first (first_of key_len low) lower begins)))
    (false_from_ne_true (same pair first) (λ one. false≢true (sym other ∙ same_back pair first one)))

-- the pair at which a node is split is above all zeros, and its key as long as the node's keys
pub record IsMiddle (node : NodeValue) (low : Pair) : Type 0 where
  pub is : middle_pair node ≡ low
  pub key : length low.key ≡ node.key_len
  pub up : below (first_of node.key_len None) low ≡ true

pub middle_low : (node : NodeValue) (place : ℕ) (low : Pair) → IsNode node → 2 ≤ length node.entries → All (λ (pair : Pair). length pair.key ≡ node.key_len) (pairs_in node) → place ≡ length node.entries / 2 → slice_get (pairs_in node) place ≡ Some low → IsMiddle node low
middle_low node place low is enough keys at told =
    let told_here : slice_get (pairs_in node) (middle_of node) ≡ Some low = ap (slice_get (pairs_in node)) (sym at) ∙ told in
    let one : middle_pair node ≡ low = (let both : Some (middle_pair node) ≡ Some low = sym (middle_told node enough) ∙ told_here in cc) in
    let inside = middle_within node enough in
    let long = length-map node.entries pair_in in
    let first = get_or (pairs_in node) 0 low in
    let middle : get_or (pairs_in node) (middle_of node) low ≡ low = middle_is node enough low ∙ one in
    let key : length low.key ≡ node.key_len = ap (λ (pair : Pair). length pair.key) (sym middle) ∙ keys (middle_of node) low inside in
    let up : below first low ≡ true = subst (λ pair. below first pair ≡ true) middle (is.order 0 (middle_of node) low (omega arith) inside) in
    let zeros = first_of node.key_len None in
    let under : below first zeros ≡ false = zeros_least first node.key_len (keys 0 low (omega arith)) in
    record {
      is = one;
      key = key;
      up = ⊎_elim (λ same_one. same_below zeros first low (same_back first zeros same_one) up) (λ other. below-trans zeros first low (above first zeros under other) up) (cases_Bool (same first zeros));
    }
