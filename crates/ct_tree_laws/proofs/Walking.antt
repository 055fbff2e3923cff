-- Where a walk to a target goes on: right or down to a page that begins at the target or below it, and at last to a leaf.
use Rattle.std.proofs.Common.{◌≡◌, ℕ, zero, suc, ◌+◌, ◌-◌, ◌≤◌, Bool, true, false, not, cond, List, [], ◌∷◌, length, map, refl, sym, ap, ◌∙◌, arith, subst, inl, inr, ⊎_elim, Option, Some, None}
use Rattle.std.specs.Prelude.{◌⊎◌, slice_get, nat_lt}
use Rattle.std.specs.List.{All, prefix_len}
use Rattle.std.proofs.lemmas.Bool.{cases_Bool, false≢true, not-true, not-false, or_left, or_right, or_cases, cond-true, cond-false, and_from, false_from_ne_true}
use Rattle.std.proofs.lemmas.List.Elements.{All-head, All-tail, All-get_or}
use Rattle.std.proofs.lemmas.Option.{get_or_from_slice_get, slice_get_within}
use Rattle.ct_node.specs.declared.root.Root.{Root}
use Rattle.ct_node.specs.declared.target.Target.{Target}
use Rattle.ct_node.specs.declared.target.Target.TheVariants.{First, Last, At, Before}
use Rattle.ct_node.specs.declared.target.Place.{Place}
use Rattle.ct_node.specs.declared.target.Place.TheVariants.{Right, Down, Here, End}
use Rattle.ct_definitions.specs.Pairs.{Pair}
use Rattle.ct_node.specs.Nodes.{Entry, NodeValue, pair_in, pairs_in, is_from, is_below, is_within}
use Rattle.ct_node.specs.Places.{is_past, is_ahead, here, down, next_place}
use Rattle.ct_node.specs.Worlds.{World, Holds, page_at, IsBeside, IsOneAbove, is_fresh}
use Rattle.ct_node.proofs.Orders.{below, same, same_below, same_back, above, not_above}
use Rattle.ct_tree_laws.specs.Trees.{Tree, IsOf, IsAt, link_by, IsInner, IsInRole, IsTree, IsApart, IsNear, IsLowFor}
use Rattle.ct_tree_laws.specs.Stands.{IsNearLeaf}
use Rattle.ct_tree_laws.proofs.EvenLevels.{right_is_beside, below_is_lower}
use Rattle.ct_tree_laws.proofs.Chains.{one_node, not_below_itself}

-- a bound that a target is past is at it or below it
pub past_low : (target : Target) (high : Pair) → is_past (Some high) target ≡ true → is_ahead true target high ≡ true
past_low First high past = absurd (false≢true past)
past_low Last high past = refl
past_low (At pair) high past =
    ⊎_elim (λ one. or_right (below high pair) (same high pair) (same_back pair high one)) (λ other. or_left (below high pair) (same high pair) (above pair high (not-true (below pair high) past) other)) (cases_Bool (same pair high))
past_low (Before pair) high past = or_left (below high pair) false past

-- how a walk goes on, by what it finds
pub next_past : (node : NodeValue) (target : Target) → is_past node.high target ≡ true → next_place node target ≡ Right node.right
next_past node target past = cond-true (is_past node.high target) (Right node.right) _ past

pub next_leaf : (node : NodeValue) (target : Target) → is_past node.high target ≡ false → node.leaf ≡ true → next_place node target ≡ here (pairs_in node) (prefix_len (is_ahead false target) (pairs_in node))
next_leaf node target past leaf = cond-false (is_past node.high target) (Right node.right) _ past ∙ cond-true node.leaf _ _ leaf

pub next_inner : (node : NodeValue) (target : Target) → is_past node.high target ≡ false → node.leaf ≡ false → next_place node target ≡ down (slice_get node.entries (prefix_len (is_ahead true target) (pairs_in node) - 1))
next_inner node target past leaf = cond-false (is_past node.high target) (Right node.right) _ past ∙ cond-false node.leaf _ _ leaf

pub here_or_end : (pairs : List Pair) (n : ℕ) → (here pairs n ≡ Here n) ⊎ (here pairs n ≡ End)
here_or_end pairs n = by_test (nat_lt n (length pairs))
  where
    by_test : (test : Bool) → (cond test (Here n) End ≡ Here n) ⊎ (cond test (Here n) End ≡ End)
    by_test true = inl refl
    by_test false = inr refl

-- the page to the right of a node
pub right_at_of : (w : World) (t : Tree) (node : NodeValue) (target : Target) → IsInRole w t node → is_past node.high target ≡ true → (low : Pair) × IsAt w t node.leaf (Some low) node.right × (is_ahead true target low ≡ true) × (node.high ≡ Some low)
right_at_of w t node target role past = by_high node.high refl past
  where
    by_high : (high : Option Pair) → node.high ≡ high → is_past high target ≡ true → (low : Pair) × IsAt w t node.leaf (Some low) node.right × (is_ahead true target low ≡ true) × (node.high ≡ Some low)
    by_high None told past = absurd (false≢true past)
    by_high (Some high) told past = (high, role.right (record { low = Some high; page = node.right }) (ap (link_by node.right) told), past_low target high past, told)

-- the last entry that passes a test is one that the walk may go down to
last_entry : (P : Entry → Type 0) (p : Pair → Bool) (entries : List Entry) (k : ℕ) → All P entries → prefix_len p (map pair_in entries) ≡ suc k → (entry : Entry) × (slice_get entries k ≡ Some entry) × P entry × (p entry.pair ≡ true)
last_entry P p [] k all is = absurd (omega (arith, is))
last_entry P p (entry ∷ entries) k all is = by_test (p entry.pair) refl is
    (λ j more. last_entry P p entries j (All-tail P entry entries all) more)
  where
    by_rest : (n : ℕ) → prefix_len p (map pair_in entries) ≡ n → p entry.pair ≡ true → 1 + n ≡ suc k → ((j : ℕ) → prefix_len p (map pair_in entries) ≡ suc j → (found : Entry) × (slice_get entries j ≡ Some found) × P found × (p found.pair ≡ true)) → (found : Entry) × (slice_get (entry ∷ entries) k ≡ Some found) × P found × (p found.pair ≡ true)
    by_rest zero told passes is rest =
        let none : k ≡ 0 = omega arith in
        (entry, ap (slice_get (entry ∷ entries)) none, All-head P entry entries all, passes)
    by_rest (suc j) told passes is rest =
        let found = rest j told in
        let next : k ≡ suc j = omega arith in
        (found.0, ap (slice_get (entry ∷ entries)) next ∙ found.1, found.2, found.3)

    by_test : (test : Bool) → p entry.pair ≡ test → cond test (1 + prefix_len p (map pair_in entries)) 0 ≡ suc k → ((j : ℕ) → prefix_len p (map pair_in entries) ≡ suc j → (found : Entry) × (slice_get entries j ≡ Some found) × P found × (p found.pair ≡ true)) → (found : Entry) × (slice_get (entry ∷ entries) k ≡ Some found) × P found × (p found.pair ≡ true)
    by_test true passes is rest = by_rest (prefix_len p (map pair_in entries)) refl passes is rest
    by_test false fails is rest = absurd (omega (arith, is))

-- the page below that an inner node leads to
pub below_at_of : (w : World) (t : Tree) (node : NodeValue) (target : Target) → IsInner w t node → IsLowFor target node.low → (entry : Entry) × (slice_get node.entries (prefix_len (is_ahead true target) (pairs_in node) - 1) ≡ Some entry) × IsNear w t target entry.child
below_at_of w t node target inner low = by_first (is_ahead true target inner.first.pair) refl
  where
    told : pairs_in node ≡ inner.first.pair ∷ map pair_in inner.rest
    told = ap (map pair_in) inner.is

    at_first : (n : ℕ) → prefix_len (is_ahead true target) (pairs_in node) ≡ n → n ≤ 1 → (entry : Entry) × (slice_get node.entries (prefix_len (is_ahead true target) (pairs_in node) - 1) ≡ Some entry) × IsNear w t target entry.child
    at_first n is few =
        let none : prefix_len (is_ahead true target) (pairs_in node) - 1 ≡ 0 = omega arith in
        (inner.first, ap (slice_get node.entries) none ∙ ap (λ es. slice_get es 0) inner.is, (inner.least.0, node.low, inner.least.1, low))

    by_rest : (n : ℕ) → prefix_len (is_ahead true target) (map pair_in inner.rest) ≡ n → prefix_len (is_ahead true target) (pairs_in node) ≡ 1 + n → (entry : Entry) × (slice_get node.entries (prefix_len (is_ahead true target) (pairs_in node) - 1) ≡ Some entry) × IsNear w t target entry.child
    by_rest zero is whole = at_first (1 + 0) whole (omega arith)
    by_rest (suc k) is whole =
        let found = last_entry (λ entry. (leaf : Bool) × IsAt w t leaf (Some entry.pair) entry.child) (is_ahead true target) inner.rest k inner.others is in
        let place : prefix_len (is_ahead true target) (pairs_in node) - 1 ≡ suc k = omega arith in
        (found.0, ap (slice_get node.entries) place ∙ ap (λ es. slice_get es (suc k)) inner.is ∙ found.1, (found.2.0, Some found.0.pair, found.2.1, found.3))

    by_first : (test : Bool) → is_ahead true target inner.first.pair ≡ test → (entry : Entry) × (slice_get node.entries (prefix_len (is_ahead true target) (pairs_in node) - 1) ≡ Some entry) × IsNear w t target entry.child
    by_first true passes =
        let whole : prefix_len (is_ahead true target) (pairs_in node) ≡ 1 + prefix_len (is_ahead true target) (map pair_in inner.rest) = ap (prefix_len (is_ahead true target)) told ∙ cond-true (is_ahead true target inner.first.pair) _ _ passes in
        by_rest (prefix_len (is_ahead true target) (map pair_in inner.rest)) refl whole
    by_first false fails =
        let whole : prefix_len (is_ahead true target) (pairs_in node) ≡ 0 = ap (prefix_len (is_ahead true target)) told ∙ cond-false (is_ahead true target inner.first.pair) _ _ fails in
        at_first 0 whole (omega arith)

-- a node that a walk has come to, in its role
pub record IsSeen (w : World) (t : Tree) (target : Target) (page : ℕ) (node : NodeValue) : Type 0 where
  pub is : page_at w page ≡ Holds node
  pub of : IsOf t node
  pub linked : is_fresh page w ≡ false
  pub role : IsInRole w t node
  pub low : IsLowFor target node.low

pub seen_near : (w : World) (at : Root) (t : Tree) (leaves : List ℕ) (target : Target) (page : ℕ) (node : NodeValue) → IsTree w at t leaves → IsNear w t target page → page_at w page ≡ Holds node → IsSeen w t target page node
seen_near w at t leaves target page node tree near is =
    let at_page = near.2 in
    let same_node : at_page.node ≡ node = one_node w page node at_page.node is at_page.is in
    let of : IsOf t node = subst (IsOf t) same_node at_page.of in
    record {
      is = is;
      of = of;
      linked = at_page.linked;
      role = tree.roles page node is of at_page.linked;
      low = subst (IsLowFor target) (sym at_page.from ∙ ap (λ (v : NodeValue). v.low) same_node) near.3;
    }

pub seen_leaf : (w : World) (at : Root) (t : Tree) (leaves : List ℕ) (target : Target) (page : ℕ) (node : NodeValue) → IsTree w at t leaves → IsNearLeaf w t target page → page_at w page ≡ Holds node → IsSeen w t target page node × (node.leaf ≡ true)
seen_leaf w at t leaves target page node tree near is =
    let same_node : near.1.node ≡ node = one_node w page node near.1.node is near.1.is in
    (seen_near w at t leaves target page node tree (true, near.0, near.1, near.2) is, sym (ap (λ (v : NodeValue). v.leaf) same_node) ∙ near.1.kind)

-- where a walk goes right, the node ends at its target or below
not_down : (found : Option Entry) (q : ℕ) → down found ≡ Right q → ⊥
not_down None q is = let both : End ≡ Right q = is in absurd (cc)
not_down (Some entry) q is = let both : Down entry.child ≡ Right q = is in absurd (cc)

pub goes_past : (node : NodeValue) (target : Target) (q : ℕ) → next_place node target ≡ Right q → (is_past node.high target ≡ true) × (node.right ≡ q)
goes_past node target q is = ⊎_elim past on (cases_Bool (is_past node.high target))
  where
    past : is_past node.high target ≡ true → (is_past node.high target ≡ true) × (node.right ≡ q)
    past over = (over, (let both : Right node.right ≡ Right q = sym (next_past node target over) ∙ is in cc))

    on : is_past node.high target ≡ false → (is_past node.high target ≡ true) × (node.right ≡ q)
    on within = ⊎_elim
        (λ leaf. ⊎_elim
        (λ at_pair. absurd (let both : Here (prefix_len (is_ahead false target) (pairs_in node)) ≡ Right q = sym at_pair ∙ sym (next_leaf node target within leaf) ∙ is in cc))
        (λ at_end. absurd (let both : End ≡ Right q = sym at_end ∙ sym (next_leaf node target within leaf) ∙ is in cc))
        (here_or_end (pairs_in node) (prefix_len (is_ahead false target) (pairs_in node))))
        (λ inner. absurd (not_down (slice_get node.entries (prefix_len (is_ahead true target) (pairs_in node) - 1)) q (sym (next_inner node target within inner) ∙ is)))
        (cases_Bool node.leaf)

-- and where it goes down, an entry of an inner node leads there
pub record LeadsDown (node : NodeValue) (target : Target) (q : ℕ) : Type 0 where
  pub within : is_past node.high target ≡ false
  pub inner : node.leaf ≡ false
  pub entry : Entry
  pub is : slice_get node.entries (prefix_len (is_ahead true target) (pairs_in node) - 1) ≡ Some entry
  pub there : entry.child ≡ q

down_to : (found : Option Entry) (q : ℕ) → down found ≡ Down q → (entry : Entry) × (found ≡ Some entry) × (entry.child ≡ q)
down_to None q is = let both : End ≡ Down q = is in absurd (cc)
down_to (Some entry) q is = (entry, refl, (let both : Down entry.child ≡ Down q = is in cc))

pub leads_down : (node : NodeValue) (target : Target) (q : ℕ) → next_place node target ≡ Down q → LeadsDown node target q
leads_down node target q is = ⊎_elim past on (cases_Bool (is_past node.high target))
  where
    past : is_past node.high target ≡ true → LeadsDown node target q
    past over = absurd (let both : Right node.right ≡ Down q = sym (next_past node target over) ∙ is in cc)

    on : is_past node.high target ≡ false → LeadsDown node target q
    on within = ⊎_elim
        (λ leaf. ⊎_elim
        (λ at_pair. absurd (let both : Here (prefix_len (is_ahead false target) (pairs_in node)) ≡ Down q = sym at_pair ∙ sym (next_leaf node target within leaf) ∙ is in cc))
        (λ at_end. absurd (let both : End ≡ Down q = sym at_end ∙ sym (next_leaf node target within leaf) ∙ is in cc))
        (here_or_end (pairs_in node) (prefix_len (is_ahead false target) (pairs_in node))))
        (λ inner.
        let found = down_to (slice_get node.entries (prefix_len (is_ahead true target) (pairs_in node) - 1)) q (sym (next_inner node target within inner) ∙ is) in
        record { within = within; inner = inner; entry = found.0; is = found.1; there = found.2 })
        (cases_Bool node.leaf)

pub near_right : (w : World) (t : Tree) (target : Target) (page : ℕ) (node : NodeValue) (q : ℕ) → IsSeen w t target page node → next_place node target ≡ Right q → IsNear w t target q
near_right w t target page node q seen is =
    let goes = goes_past node target q is in
    let found = right_at_of w t node target seen.role goes.0 in
    subst (IsNear w t target) goes.1 (node.leaf, Some found.0, found.1, found.2)

pub near_down : (w : World) (t : Tree) (target : Target) (page : ℕ) (node : NodeValue) (q : ℕ) → IsSeen w t target page node → next_place node target ≡ Down q → IsNear w t target q × (node.leaf ≡ false)
near_down w t target page node q seen is =
    let goes = leads_down node target q is in
    let found = below_at_of w t node target (seen.role.inner goes.inner) seen.low in
    let both : Some found.0 ≡ Some goes.entry = sym found.1 ∙ goes.is in
    let one : found.0 ≡ goes.entry = cc in
    (subst (IsNear w t target) (ap (λ (entry : Entry). entry.child) one ∙ goes.there) found.2, goes.inner)

-- the page to the right of a node that ends at a target or below is beside it
pub past_beside : (w : World) (at : Root) (t : Tree) (leaves : List ℕ) (target : Target) (page : ℕ) (node : NodeValue) → IsTree w at t leaves → IsSeen w t target page node → is_past node.high target ≡ true → IsBeside w page node.right
past_beside w at t leaves target page node tree seen past =
    let found = right_at_of w t node target seen.role past in
    right_is_beside w at t leaves page node (record { low = Some found.0; page = node.right }) tree seen.is seen.of seen.linked (ap (link_by node.right) found.3)

-- a walk that goes right stays on its level
pub right_beside : (w : World) (at : Root) (t : Tree) (leaves : List ℕ) (target : Target) (page : ℕ) (node : NodeValue) (q : ℕ) → IsTree w at t leaves → IsSeen w t target page node → next_place node target ≡ Right q → IsBeside w page q
right_beside w at t leaves target page node q tree seen is =
    let goes = goes_past node target q is in
    subst (IsBeside w page) goes.1 (past_beside w at t leaves target page node tree seen goes.0)

-- what holds of all entries holds of one
pub All-slice_get : (P : Entry → Type 0) (entries : List Entry) (k : ℕ) (entry : Entry) → All P entries → slice_get entries k ≡ Some entry → P entry
All-slice_get P entries k entry all is = subst P (get_or_from_slice_get entries k entry entry is) (All-get_or P entries k entry (slice_get_within entries k entry is) all)

-- and one that goes down comes to the next lower level
pub down_above : (w : World) (at : Root) (t : Tree) (leaves : List ℕ) (target : Target) (page : ℕ) (node : NodeValue) (q : ℕ) → IsTree w at t leaves → IsSeen w t target page node → next_place node target ≡ Down q → IsOneAbove w page q
down_above w at t leaves target page node q tree seen is =
    let goes = leads_down node target q is in
    let lower = below_is_lower w at t leaves page node tree seen.is seen.of seen.linked goes.inner in
    subst (IsOneAbove w page) goes.there (All-slice_get (λ (entry : Entry). IsOneAbove w page entry.child) node.entries (prefix_len (is_ahead true target) (pairs_in node) - 1) goes.entry lower goes.is)

-- a walk that goes on neither right nor down has come to the target's leaf
pub record IsLast (node : NodeValue) (target : Target) : Type 0 where
  pub leaf : node.leaf ≡ true
  pub within : is_past node.high target ≡ false

pub last_here : (w : World) (t : Tree) (target : Target) (page : ℕ) (node : NodeValue) (place : Place) → IsSeen w t target page node → next_place node target ≡ place → ((q : ℕ) → place ≡ Right q → ⊥) → ((q : ℕ) → place ≡ Down q → ⊥) → IsLast node target
last_here w t target page node place seen is not_right not_down = ⊎_elim past on (cases_Bool (is_past node.high target))
  where
    past : is_past node.high target ≡ true → IsLast node target
    past over = absurd (not_right node.right (sym is ∙ next_past node target over))

    on : is_past node.high target ≡ false → IsLast node target
    on within = ⊎_elim
        (λ leaf. record { leaf = leaf; within = within })
        (λ inner.
        let found = below_at_of w t node target (seen.role.inner inner) seen.low in
        absurd (not_down found.0.child (sym is ∙ next_inner node target within inner ∙ ap down found.1)))
        (cases_Bool node.leaf)

-- the pair of a target lies within the bounds of its leaf
pub within_last : (node : NodeValue) (pair : Pair) → IsLowFor (At pair) node.low → is_past node.high (At pair) ≡ false → is_within node.low node.high pair ≡ true
within_last node pair low past = and_from (is_from node.low pair) (is_below node.high pair) (from node.low low) (under node.high past)
  where
    from : (bound : Option Pair) → IsLowFor (At pair) bound → is_from bound pair ≡ true
    from None low = refl
    from (Some bound) low = ap not (⊎_elim (λ lower. not_above bound pair lower) (λ one. equal one) (or_cases (below bound pair) (same bound pair) low))
      where
        equal : same bound pair ≡ true → below pair bound ≡ false
        equal one = false_from_ne_true (below pair bound) (λ lower. false≢true (sym (not_below_itself bound) ∙ same_below bound pair bound one lower))

    under : (bound : Option Pair) → is_past bound (At pair) ≡ false → is_below bound pair ≡ true
    under None past = refl
    under (Some bound) past = not-false (below pair bound) past

-- no page that links reach leads to one that none does
pub onward_of : (w : World) (t : Tree) (node : NodeValue) → IsApart w → IsInRole w t node → is_fresh node.right w ≡ false
onward_of w t node apart role = by_high node.high refl
  where
    by_high : (high : Option Pair) → node.high ≡ high → is_fresh node.right w ≡ false
    by_high None told = ap (λ page. is_fresh page w) (role.last told) ∙ apart.zero
    by_high (Some high) told = (role.right (record { low = Some high; page = node.right }) (ap (link_by node.right) told)).linked
