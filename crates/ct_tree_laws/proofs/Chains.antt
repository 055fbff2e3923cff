-- Where a leaf stands in the chain of leaves: all pairs before it are below it, and all behind it above.
use Rattle.std.proofs.Common.{◌≡◌, ℕ, Bool, true, false, not, List, [], ◌∷◌, ◌++◌, refl, sym, ap, ◌∙◌, subst, inl, inr, ⊎_elim, Option, Some, None}
use Rattle.std.specs.List.{All}
use Rattle.std.specs.Ordering.{is_lt}
use Rattle.std.proofs.lemmas.Bool.{cases_Bool, false≢true, and_parts, not-true, false_from_ne_true}
use Rattle.std.proofs.lemmas.Cmp.{tied_itself}
use Rattle.std.proofs.lemmas.List.Elements.{All-nil, All-append, All-weaker}
use Rattle.ct_definitions.specs.Pairs.{Pair}
use Rattle.ct_node.specs.Nodes.{NodeValue, pairs_in, is_from, is_below, is_within}
use Rattle.ct_node.specs.Worlds.{World, Holds, page_at, is_fresh}
use Rattle.ct_node.proofs.Orders.{below, same, below-trans, below_same, same_back, above, pair_total}
use Rattle.ct_tree_laws.specs.Trees.{Tree, IsOf, IsAt, Link, link_by, link_of, link_in, Rises, IsInRole, Linked, IsAmong, pairs_in_page, pairs_at, joined}

-- a link, by its parts
abbrev pub link_to : Option Pair → ℕ → Option Link
link_to low page = Some (record { low = low; page = page })

pub none_is_no_link : (low : Option Pair) (page : ℕ) → None ≡ link_to low page → ⊥
none_is_no_link low page is = absurd (cc)

-- a low bound is not above another
abbrev pub LowLe : Option Pair → Option Pair → Type 0
LowLe None low = Unit {0}
LowLe (Some a) None = ⊥
LowLe (Some a) (Some b) = below b a ≡ false

-- a pair is below a low bound
abbrev pub IsUnder : Option Pair → Pair → Type 0
IsUnder None pair = ⊥
IsUnder (Some low) pair = below pair low ≡ true

-- a pair is at a high bound or above it
abbrev pub IsOver : Option Pair → Pair → Type 0
IsOver None pair = ⊥
IsOver (Some high) pair = is_from (Some high) pair ≡ true

pub not_below_itself : (pair : Pair) → below pair pair ≡ false
not_below_itself pair = ap is_lt (tied_itself pair_total pair)

pub LowLe-refl : (low : Option Pair) → LowLe low low
LowLe-refl None = tt
LowLe-refl (Some low) = not_below_itself low

not_below_over : (a b c : Pair) → below a b ≡ true → below c b ≡ false → below c a ≡ false
not_below_over a b c up not_low = false_from_ne_true (below c a) (λ low. false≢true (sym not_low ∙ below-trans c a b low up))

pub LowLe-over : (low other : Option Pair) (high : Pair) → Rises low (Some high) → LowLe (Some high) other → LowLe low other
LowLe-over None other high up from = tt
LowLe-over (Some low) None high up from = from
LowLe-over (Some low) (Some other) high up from = not_below_over low high other up from

pub is_from-over : (low : Option Pair) (high pair : Pair) → Rises low (Some high) → is_from (Some high) pair ≡ true → is_from low pair ≡ true
is_from-over None high pair up from = refl
is_from-over (Some low) high pair up from = ap not (not_below_over low high pair up (not-true (below pair high) from))

pub rises_not : (low : Option Pair) (high : Pair) → Rises low (Some high) → LowLe (Some high) low → ⊥
rises_not None high up from = from
rises_not (Some low) high up from = false≢true (sym from ∙ up)

-- what is below a bound is below what that bound is not above
pub below_le : (pair high low : Pair) → below pair high ≡ true → below low high ≡ false → below pair low ≡ true
below_le pair high low under from =
    ⊎_elim (λ one. below_same pair high low under (same_back low high one)) (λ other. below-trans pair high low under (above low high from other)) (cases_Bool (same low high))

pub IsUnder-from : (low : Option Pair) (high pair : Pair) → below pair high ≡ true → LowLe (Some high) low → IsUnder low pair
IsUnder-from None high pair under from = from
IsUnder-from (Some low) high pair under from = below_le pair high low under from

-- each node of the tree that a link reaches is in its role
abbrev pub Roles : World → Tree → Type 0
Roles w t = (page : ℕ) (node : NodeValue) → page_at w page ≡ Holds node → IsOf t node → is_fresh page w ≡ false → IsInRole w t node

pub role_at : (w : World) (t : Tree) (leaf : Bool) (low : Option Pair) (page : ℕ) → Roles w t → (at : IsAt w t leaf low page) → IsInRole w t at.node
role_at w t leaf low page roles at = roles page at.node at.is at.of at.linked

pub one_node : (w : World) (page : ℕ) (node other : NodeValue) → page_at w page ≡ Holds node → page_at w page ≡ Holds other → other ≡ node
one_node w page node other is also = let both : Holds other ≡ Holds node = sym also ∙ is in cc

pub none_linked : (w : World) (t : Tree) (pages : List ℕ) (page : ℕ) → Linked w t None pages → IsAmong page pages → ⊥
none_linked w t [] page linked among = among
none_linked w t (first ∷ pages) page linked among = absurd (none_is_no_link linked.0 first linked.1)

pub low_of_link : (low other : Option Pair) (page q : ℕ) → link_to low q ≡ link_to other page → other ≡ low
low_of_link low other page q is = ap (link_low low) (sym is)
  where
    link_low : Option Pair → Option Link → Option Pair
    link_low low None = low
    link_low low (Some link) = link.low

rises_at : (w : World) (t : Tree) (low : Option Pair) (page : ℕ) (high : Pair) → Roles w t → (at : IsAt w t true low page) → at.node.high ≡ Some high → Rises low (Some high)
rises_at w t low page high roles at is =
    subst (λ bound. Rises low bound) is (subst (λ bound. Rises bound at.node.high) at.from (role_at w t true low page roles at).rises)

-- the leaves from a low bound on begin at it or above it
pub lows_from : (w : World) (t : Tree) (low : Option Pair) (q : ℕ) (pages : List ℕ) → Roles w t → Linked w t (Some (record { low = low; page = q })) pages → (page : ℕ) (node : NodeValue) → IsAmong page pages → page_at w page ≡ Holds node → LowLe low node.low
lows_from w t low q [] roles linked page node among is = absurd among
lows_from w t low q (first ∷ pages) roles linked page node (inl one) is =
    let at = linked.2 in
    let same : at.node ≡ node = one_node w page node at.node is (ap (page_at w) one ∙ at.is) in
    subst (LowLe low) (sym (low_of_link low linked.0 first q linked.1) ∙ sym at.from ∙ ap (λ (v : NodeValue). v.low) same) (LowLe-refl low)
lows_from w t low q (first ∷ pages) roles linked page node (inr later) is =
    let at = linked.2 in
    by_high at.node.high refl (subst (λ value. Linked w t (link_in value) pages) at.is linked.3) (λ high. lows_from w t (Some high) at.node.right pages roles)
  where
    by_high : (bound : Option Pair) → linked.2.node.high ≡ bound → Linked w t (link_by linked.2.node.right bound) pages → ((high : Pair) → Linked w t (Some (record { low = Some high; page = linked.2.node.right })) pages → (page : ℕ) (node : NodeValue) → IsAmong page pages → page_at w page ≡ Holds node → LowLe (Some high) node.low) → LowLe low node.low
    by_high None told rest next = absurd (none_linked w t pages page rest later)
    by_high (Some high) told rest next =
        LowLe-over low node.low high (subst (λ bound. Rises bound (Some high)) (low_of_link low linked.0 first q linked.1) (rises_at w t linked.0 first high roles linked.2 told)) (next high rest page node later is)

-- the pairs of the leaves from a low bound on are at it or above it
pub pairs_from : (w : World) (t : Tree) (low : Option Pair) (q : ℕ) (pages : List ℕ) → Roles w t → Linked w t (Some (record { low = low; page = q })) pages → All (λ pair. is_from low pair ≡ true) (joined w pages)
pairs_from w t low q [] roles linked = All-nil (λ pair. is_from low pair ≡ true)
pairs_from w t low q (first ∷ pages) roles linked =
    let at = linked.2 in
    let role = role_at w t true linked.0 first roles at in
    let start : linked.0 ≡ low = low_of_link low linked.0 first q linked.1 in
    let here : All (λ pair. is_from low pair ≡ true) (pairs_in at.node) =
    All-weaker (λ pair. is_within at.node.low at.node.high pair ≡ true) (λ pair. is_from low pair ≡ true) (λ pair within. subst (λ bound. is_from bound pair ≡ true) (at.from ∙ start) (and_parts (is_from at.node.low pair) (is_below at.node.high pair) within).0) (pairs_in at.node) role.node_is.bounds in
    All-append (λ pair. is_from low pair ≡ true) (pairs_at w first) (joined w pages) (subst (All (λ pair. is_from low pair ≡ true)) (sym (ap pairs_in_page at.is)) here)
    (by_high at.node.high refl (subst (λ value. Linked w t (link_in value) pages) at.is linked.3) (λ high. pairs_from w t (Some high) at.node.right pages roles))
  where
    none_behind : (later : List ℕ) → Linked w t None later → All (λ pair. is_from low pair ≡ true) (joined w later)
    none_behind [] rest = All-nil (λ pair. is_from low pair ≡ true)
    none_behind (next ∷ later) rest = absurd (none_is_no_link rest.0 next rest.1)

    by_high : (bound : Option Pair) → linked.2.node.high ≡ bound → Linked w t (link_by linked.2.node.right bound) pages → ((high : Pair) → Linked w t (Some (record { low = Some high; page = linked.2.node.right })) pages → All (λ pair. is_from (Some high) pair ≡ true) (joined w pages)) → All (λ pair. is_from low pair ≡ true) (joined w pages)
    by_high None told rest next = none_behind pages rest
    by_high (Some high) told rest next =
        All-weaker (λ pair. is_from (Some high) pair ≡ true) (λ pair. is_from low pair ≡ true) (λ pair from. is_from-over low high pair (subst (λ bound. Rises bound (Some high)) (low_of_link low linked.0 first q linked.1) (rises_at w t linked.0 first high roles linked.2 told)) from) (joined w pages) (next high rest)

-- the leaves before a leaf and behind it
pub record Around (w : World) (node : NodeValue) (page : ℕ) (leaves : List ℕ) : Type 0 where
  pub before : List ℕ
  pub after : List ℕ
  pub is : leaves ≡ before ++ page ∷ after
  pub lower : All (IsUnder node.low) (joined w before)
  pub upper : All (IsOver node.high) (joined w after)
  pub not_before : IsAmong page before → ⊥
  pub not_after : IsAmong page after → ⊥

over_all : (w : World) (t : Tree) (high : Option Pair) (right : ℕ) (pages : List ℕ) → Roles w t → Linked w t (link_by right high) pages → All (IsOver high) (joined w pages)
over_all w t None right [] roles linked = All-nil (IsOver None)
over_all w t None right (next ∷ pages) roles linked = absurd (none_is_no_link linked.0 next linked.1)
over_all w t (Some high) right pages roles linked = pairs_from w t (Some high) right pages roles linked

not_later : (w : World) (t : Tree) (high : Option Pair) (right : ℕ) (pages : List ℕ) (page : ℕ) (node : NodeValue) → Roles w t → Linked w t (link_by right high) pages → page_at w page ≡ Holds node → Rises node.low high → IsAmong page pages → ⊥
not_later w t None right pages page node roles linked is up among = none_linked w t pages page linked among
not_later w t (Some high) right pages page node roles linked is up among = rises_not node.low high up (lows_from w t (Some high) right pages roles linked page node among is)

under_all : (w : World) (t : Tree) (high : Option Pair) (right : ℕ) (pages : List ℕ) (page : ℕ) (node : NodeValue) (pairs : List Pair) → Roles w t → Linked w t (link_by right high) pages → IsAmong page pages → page_at w page ≡ Holds node → All (λ pair. is_below high pair ≡ true) pairs → All (IsUnder node.low) pairs
under_all w t None right pages page node pairs roles linked among is lower = absurd (none_linked w t pages page linked among)
under_all w t (Some high) right pages page node pairs roles linked among is lower =
    All-weaker (λ pair. is_below (Some high) pair ≡ true) (IsUnder node.low) (λ pair under. IsUnder-from node.low high pair under (lows_from w t (Some high) right pages roles linked page node among is)) pairs lower

pub around : (w : World) (t : Tree) (link : Option Link) (leaves : List ℕ) → Roles w t → Linked w t link leaves → (page : ℕ) (node : NodeValue) → IsAmong page leaves → page_at w page ≡ Holds node → Around w node page leaves
around w t link [] roles linked page node among is = absurd among
around w t link (first ∷ pages) roles linked page node (inl one) is =
    let at = linked.2 in
    let same : at.node ≡ node = one_node w page node at.node is (ap (page_at w) one ∙ at.is) in
    let rest : Linked w t (link_of node) pages = subst (λ v. Linked w t (link_of v) pages) same (subst (λ value. Linked w t (link_in value) pages) at.is linked.3) in
    let up : Rises node.low node.high = subst (λ (v : NodeValue). Rises v.low v.high) same (role_at w t true linked.0 first roles at).rises in
    record {
      before = [];
      after = pages;
      is = ap (λ p. p ∷ pages) (sym one);
      lower = All-nil (IsUnder node.low);
      upper = over_all w t node.high node.right pages roles rest;
      not_before = λ none. none;
      not_after = not_later w t node.high node.right pages page node roles rest is up;
    }
around w t link (first ∷ pages) roles linked page node (inr later) is =
    let at = linked.2 in
    let role = role_at w t true linked.0 first roles at in
    let rest : Linked w t (link_of at.node) pages = subst (λ value. Linked w t (link_in value) pages) at.is linked.3 in
    let found = around w t (link_in (page_at w first)) pages roles linked.3 page node later is in
    let inside : All (λ pair. is_below at.node.high pair ≡ true) (pairs_in at.node) = All-weaker (λ pair. is_within at.node.low at.node.high pair ≡ true) (λ pair. is_below at.node.high pair ≡ true) (λ pair within. (and_parts (is_from at.node.low pair) (is_below at.node.high pair) within).1) (pairs_in at.node) role.node_is.bounds in
    let under : All (IsUnder node.low) (pairs_in at.node) = under_all w t at.node.high at.node.right pages page node (pairs_in at.node) roles rest later is inside in
    record {
      before = first ∷ found.before;
      after = found.after;
      is = ap (λ ps. first ∷ ps) found.is;
      lower = All-append (IsUnder node.low) (pairs_at w first) (joined w found.before) (subst (All (IsUnder node.low)) (sym (ap pairs_in_page at.is)) under) found.lower;
      upper = found.upper;
      not_before = ⊎_elim (λ one.
          let same : at.node ≡ node = one_node w page node at.node is (ap (page_at w) one ∙ at.is) in
          not_later w t at.node.high at.node.right pages page node roles rest is (subst (λ (v : NodeValue). Rises v.low at.node.high) same role.rises) later) found.not_before;
      not_after = found.not_after;
    }
