-- The turns of a search to the right: all leaves up to its place hold nothing for it, and so the pair that it finds is the first one.
use Rattle.std.proofs.Common.{◌≡◌, ℕ, Bool, true, false, not, ◌&&◌, ◌||◌, List, [], ◌∷◌, refl, sym, ap, ◌∙◌, subst, inl, inr, ⊎_elim, Option, Some, None, filter}
use Rattle.std.specs.Prelude.{◌⊎◌, find, ◌==◌}
use Rattle.std.specs.List.{AllPass, prefix_len}
use Rattle.std.proofs.lemmas.Bool.{cases_Bool, false≢true, or_cases, cond-true, false_from_ne_true, eq-eqb}
use Rattle.ct_latch.specs.Latches.{is_of, bars, with_share}
use Rattle.ct_definitions.specs.Pairs.{Pair}
use Rattle.ct_node.specs.declared.root.Root.{Root}
use Rattle.ct_node.specs.declared.target.Target.{Target}
use Rattle.ct_node.specs.declared.target.Target.TheVariants.{First, Last, At, Before}
use Rattle.ct_node.specs.declared.target.Place.TheVariants as place
use Rattle.ct_node.specs.Nodes.{NodeValue, pairs_in}
use Rattle.ct_node.specs.Places.{is_ahead, is_past, next_place}
use Rattle.ct_node.specs.Worlds.{World, Holds, page_at, has_latch, with_holds, IsTidy}
use Rattle.ct_node.proofs.Orders.{below, same, same_below, below-trans, same_back, above}
use Rattle.ct_tree_laws.specs.declared.walk.Walk.{Walk}
use Rattle.ct_tree_laws.specs.declared.walk.Stage.{Stage}
use Rattle.ct_tree_laws.specs.declared.walk.Stage.TheVariants as stage
use Rattle.ct_tree_laws.specs.Trees.{Tree, IsOf, IsAt, IsTree, IsApart, IsInRole, IsLower, HasPassed, IsNear, IsLowFor, IsAmong, Link, Linked, link_of, link_by, link_in, Rises}
use Rattle.ct_tree_laws.specs.Stands.{HasNone, IsNearLeaf, IsReachedBySearch, Stands, Stepped, KeepsKeys}
use Rattle.ct_tree_laws.proofs.Taking.{shared, ChangesLatches-share, ChangesLatches-free_all, has_latch-with_share_new, list_any-with_share_more, is_of_parts, is_of_from}
use Rattle.ct_tree_laws.proofs.Holders.{list_any_gone}
use Rattle.ct_tree_laws.proofs.Chains.{LowLe, Roles, role_at, one_node, none_linked, lows_from, link_to, not_below_itself, below_le}
use Rattle.ct_tree_laws.proofs.Steps.{IsStep, IsStep-latches}
use Rattle.ct_tree_laws.proofs.Keys.{KeepsKeys-latches}
use Rattle.ct_tree_laws.proofs.Walking.{right_at_of, here_or_end, next_past, next_leaf}
use Rattle.ct_tree_laws.proofs.Turns.{at_stage, stepped_same}
use Rattle.ct_tree_laws.proofs.PutTurns.{stepped_by}

-- one low bound is below another, or not
pub lower_or_not : (low other : Option Pair) → IsLower low other ⊎ LowLe other low
lower_or_not low None = inr tt
lower_or_not None (Some other) = inl tt
lower_or_not (Some low) (Some other) = cases_Bool (below low other)

not_both : (low : Option Pair) (high : Pair) (bound : Option Pair) → Rises low (Some high) → LowLe (Some high) bound → IsLower bound low → ⊥
not_both low high None up from under = from
not_both None high (Some bound) up from under = under
not_both (Some low) high (Some bound) up from under = false≢true (sym from ∙ below-trans bound low high under up)

not_both_le : (low : Option Pair) (high : Pair) (bound : Option Pair) → Rises low (Some high) → LowLe (Some high) bound → LowLe bound low → ⊥
not_both_le low high None up from under = from
not_both_le None high (Some bound) up from under = under
not_both_le (Some low) high (Some bound) up from under = false≢true (sym under ∙ below_le low high bound up from)

not_under_high : (high : Pair) (bound : Option Pair) → LowLe (Some high) bound → IsLower bound (Some high) → ⊥
not_under_high high None from under = from
not_under_high high (Some bound) from under = false≢true (sym from ∙ under)

-- an earlier leaf ends where a later one begins, or before
abbrev pub EndsBefore : Option Pair → Option Pair → Type 0
EndsBefore None low = ⊥
EndsBefore (Some high) low = LowLe (Some high) low

module _ (w : World) (t : Tree) (roles : Roles w t) where
  ends_before : (link : Option Link) (pages : List ℕ) → Linked w t link pages → (x p : ℕ) (u v : NodeValue) → IsAmong x pages → IsAmong p pages → page_at w x ≡ Holds u → page_at w p ≡ Holds v → IsLower u.low v.low → EndsBefore u.high v.low
  ends_before link [] linked x p u v one two is told lower = absurd one
  ends_before link (first ∷ pages) linked x p u v one two is told lower =
      by_cases one two (λ later also. ends_before (link_in (page_at w first)) pages linked.3 x p u v later also is told lower)
    where
      node : NodeValue
      node = linked.2.node

      rest : (value : NodeValue) → page_at w first ≡ Holds value → Linked w t (link_of value) pages
      rest value same = subst (λ found. Linked w t (link_in found) pages) same linked.3

      rises : (value : NodeValue) → page_at w first ≡ Holds value → Rises value.low value.high
      rises value same = let one = one_node w first linked.2.node value linked.2.is same in subst (λ (n : NodeValue). Rises n.low n.high) (sym one) (role_at w t true linked.0 first roles linked.2).rises

      later_low : (value : NodeValue) (high : Option Pair) → value.high ≡ high → page_at w first ≡ Holds value → (q : ℕ) (found : NodeValue) → IsAmong q pages → page_at w q ≡ Holds found → EndsBefore high found.low
      later_low value None told_high same q found among at_q = none_linked w t pages q (subst (λ bound. Linked w t (link_by value.right bound) pages) told_high (rest value same)) among
      later_low value (Some high) told_high same q found among at_q = lows_from w t (Some high) value.right pages roles (subst (λ bound. Linked w t (link_by value.right bound) pages) told_high (rest value same)) q found among at_q

      never : (value : NodeValue) (high : Option Pair) → value.high ≡ high → page_at w first ≡ Holds value → (q : ℕ) (found : NodeValue) → IsAmong q pages → page_at w q ≡ Holds found → IsLower found.low value.low → ⊥
      never value None told_high same q found among at_q under = later_low value None told_high same q found among at_q
      never value (Some high) told_high same q found among at_q under = not_both value.low high found.low (subst (Rises value.low) told_high (rises value same)) (later_low value (Some high) told_high same q found among at_q) under

      irreflexive : (low : Option Pair) → IsLower low low → ⊥
      irreflexive None under = under
      irreflexive (Some low) under = false≢true (sym (not_below_itself low) ∙ under)

      by_cases : (x ≡ first) ⊎ IsAmong x pages → (p ≡ first) ⊎ IsAmong p pages → (IsAmong x pages → IsAmong p pages → EndsBefore u.high v.low) → EndsBefore u.high v.low
      by_cases (inl x_first) (inl p_first) recurse =
          let same : v ≡ u = one_node w first u v (sym (ap (page_at w) x_first) ∙ is) (sym (ap (page_at w) p_first) ∙ told) in
          absurd (irreflexive u.low (subst (λ (n : NodeValue). IsLower u.low n.low) same lower))
      by_cases (inl x_first) (inr later) recurse = later_low u u.high refl (sym (ap (page_at w) x_first) ∙ is) p v later told
      by_cases (inr later) (inl p_first) recurse = absurd (never v v.high refl (sym (ap (page_at w) p_first) ∙ told) x u later is lower)
      by_cases (inr later) (inr also) recurse = recurse later also

  -- a leaf that begins between a leaf's bounds is that leaf
  one_leaf : (link : Option Link) (pages : List ℕ) → Linked w t link pages → (x p : ℕ) (u v : NodeValue) (high : Pair) → IsAmong x pages → IsAmong p pages → page_at w x ≡ Holds u → page_at w p ≡ Holds v → LowLe v.low u.low → v.high ≡ Some high → IsLower u.low (Some high) → x ≡ p
  one_leaf link [] linked x p u v high one two is told from ends under = absurd one
  one_leaf link (first ∷ pages) linked x p u v high one two is told from ends under =
      by_cases one two (λ later also. one_leaf (link_in (page_at w first)) pages linked.3 x p u v high later also is told from ends under)
    where
      rest : (value : NodeValue) → page_at w first ≡ Holds value → Linked w t (link_of value) pages
      rest value same = subst (λ found. Linked w t (link_in found) pages) same linked.3

      rises : (value : NodeValue) → page_at w first ≡ Holds value → Rises value.low value.high
      rises value same = let one = one_node w first linked.2.node value linked.2.is same in subst (λ (n : NodeValue). Rises n.low n.high) (sym one) (role_at w t true linked.0 first roles linked.2).rises

      later_low : (value : NodeValue) (bound : Option Pair) → value.high ≡ bound → page_at w first ≡ Holds value → (q : ℕ) (found : NodeValue) → IsAmong q pages → page_at w q ≡ Holds found → EndsBefore bound found.low
      later_low value None told_high same q found among at_q = none_linked w t pages q (subst (λ bound. Linked w t (link_by value.right bound) pages) told_high (rest value same)) among
      later_low value (Some bound) told_high same q found among at_q = lows_from w t (Some bound) value.right pages roles (subst (λ b. Linked w t (link_by value.right b) pages) told_high (rest value same)) q found among at_q

      never : (value : NodeValue) (bound : Option Pair) → value.high ≡ bound → page_at w first ≡ Holds value → (q : ℕ) (found : NodeValue) → IsAmong q pages → page_at w q ≡ Holds found → LowLe found.low value.low → ⊥
      never value None told_high same q found among at_q le = later_low value None told_high same q found among at_q
      never value (Some bound) told_high same q found among at_q le = not_both_le value.low bound found.low (subst (Rises value.low) told_high (rises value same)) (later_low value (Some bound) told_high same q found among at_q) le

      by_cases : (x ≡ first) ⊎ IsAmong x pages → (p ≡ first) ⊎ IsAmong p pages → (IsAmong x pages → IsAmong p pages → x ≡ p) → x ≡ p
      by_cases (inl x_first) (inl p_first) recurse = x_first ∙ sym p_first
      by_cases (inl x_first) (inr later) recurse = absurd (never u u.high refl (sym (ap (page_at w) x_first) ∙ is) p v later told from)
      by_cases (inr later) (inl p_first) recurse = absurd (not_under_high high u.low (later_low v (Some high) ends (sym (ap (page_at w) p_first) ∙ told) x u later is) under)
      by_cases (inr later) (inr also) recurse = recurse later also

-- a bound at a low bound of the target or below is one that the target is past
past_from_low : (target : Target) (high : Pair) (low : Option Pair) → LowLe (Some high) low → IsLowFor target low → is_past (Some high) target ≡ true
past_from_low target high None from low = absurd from
past_from_low First high (Some low) from ahead = absurd (false≢true ahead)
past_from_low Last high (Some low) from ahead = refl
past_from_low (At pair) high (Some low) from ahead = ap not (false_from_ne_true (below pair high) (λ under. ⊎_elim
    (λ lower. false≢true (sym from ∙ below-trans low pair high lower under))
    (λ one. false≢true (sym from ∙ same_below low pair high one under))
    (or_cases (below low pair) (same low pair) ahead)))
past_from_low (Before pair) high (Some low) from ahead = high_under (below low pair) refl ahead
  where
    high_under : (test : Bool) → below low pair ≡ test → (test || (false && same low pair)) ≡ true → below high pair ≡ true
    high_under true lower is = over (cases_Bool (same low high))
      where
        over : (same low high ≡ true) ⊎ (same low high ≡ false) → below high pair ≡ true
        over (inl one) = same_below high low pair (same_back low high one) lower
        over (inr other) = below-trans high low pair (above low high from other) lower
    high_under false lower is = absurd (false≢true is)

-- at the target's leaf all leaves below are passed
pub first_passed : (w : World) (at : Root) (t : Tree) (leaves : List ℕ) (op : ℕ) (above : Bool) (target : Target) (page : ℕ) → IsTree w at t leaves → (near : IsNearLeaf w t target page) → HasPassed w t op above target near.0
first_passed w at t leaves op above target page tree near x u is lower =
    let place = near.1 in
    let here = tree.all page place.node place.is place.of place.kind place.linked in
    let there = tree.all x u is.is is.of is.leaf is.linked in
    inl (by_high u.high refl (ends_before w t tree.roles (link_to None t.first) leaves tree.linked x page u place.node there here is.is place.is (subst (IsLower u.low) (sym place.from) lower)))
  where
    by_high : (high : Option Pair) → u.high ≡ high → EndsBefore high near.1.node.low → is_past high target ≡ true
    by_high None told ends = absurd ends
    by_high (Some high) told ends = past_from_low target high near.0 (subst (LowLe (Some high)) near.1.from ends) near.2

-- the leaf is shared
pub latch_kept : (op page : ℕ) (q : ℕ) (w : World) → has_latch op q w ≡ true → has_latch op q (with_holds (with_share page op w.holds) w) ≡ true
latch_kept op page q w is = list_any-with_share_more (is_of q op) page op w.holds
    (λ hold of mine.
    let parts = is_of_parts page op hold of in
    let theirs = is_of_parts q op hold mine in
    is_of_from q op (shared page op) (sym parts.0 ∙ theirs.0) refl) is

share_passed : (w : World) (t : Tree) (op page : ℕ) (above : Bool) (target : Target) (low : Option Pair) → HasPassed w t op above target low → HasPassed (with_holds (with_share page op w.holds) w) t op above target low
share_passed w t op page above target low passed q v is lower =
    ⊎_elim (λ past. inl past) (λ (latched, clear). inr (latch_kept op page q w latched, clear)) (passed q v (record { is = is.is; of = is.of; leaf = is.leaf; linked = is.linked }) lower)

pub share_step : (walk : Walk) (page : ℕ) (w : World) → find (bars page walk.op false) w.holds ≡ None → IsApart w → IsStep walk.op w (with_holds (with_share page walk.op w.holds) w)
share_step walk page w free apart = IsStep-latches walk.op w (with_holds (with_share page walk.op w.holds) w) apart (ChangesLatches-share page walk.op w free)

pub share_first : (walk : Walk) (above : Bool) (page : ℕ) (w now : World) → Stands walk (stage.Leaf page) w → find (bars page walk.op false) w.holds ≡ None → now ≡ with_holds (with_share page walk.op w.holds) w → Stepped walk (stage.Shared page above) w now
share_first walk above page w now stands free is = subst (Stepped walk (stage.Shared page above) w) (sym is)
    (stepped_by walk (stage.Leaf page) (stage.Shared page above) w (with_holds (with_share page walk.op w.holds) w) stands (λ here. share_step walk page w free here.apart)
    (λ here.
    let near = here.place.1 in
    (here.place.0, (near.0, (share_step walk page w free here.apart).at here.tree true near.0 page near.1, share_passed w here.tree walk.op page above walk.target near.0 (first_passed w walk.at here.tree here.leaves walk.op above walk.target page here.is near)), has_latch-with_share_new page walk.op w)))

pub share_next : (walk : Walk) (above : Bool) (page : ℕ) (w now : World) → Stands walk (stage.Share page above) w → find (bars page walk.op false) w.holds ≡ None → now ≡ with_holds (with_share page walk.op w.holds) w → Stepped walk (stage.Shared page above) w now
share_next walk above page w now stands free is = subst (Stepped walk (stage.Shared page above) w) (sym is)
    (stepped_by walk (stage.Share page above) (stage.Shared page above) w (with_holds (with_share page walk.op w.holds) w) stands (λ here. share_step walk page w free here.apart)
    (λ here.
    let reached = here.place.1 in
    (here.place.0, (reached.0, (share_step walk page w free here.apart).at here.tree true reached.0 page reached.1, share_passed w here.tree walk.op page above walk.target reached.0 reached.2), has_latch-with_share_new page walk.op w)))

pub share_keys : (walk : Walk) (from : Stage) (page : ℕ) (w now : World) → Stands walk from w → find (bars page walk.op false) w.holds ≡ None → now ≡ with_holds (with_share page walk.op w.holds) w → KeepsKeys w now
share_keys walk from page w now stands free is = subst (KeepsKeys w) (sym is) (KeepsKeys-latches walk.op w (with_holds (with_share page walk.op w.holds) w) (stands.apart) (ChangesLatches-share page walk.op w free))

-- all latches are given back, and the search begins again
abbrev pub all_freed : ℕ → World → World
all_freed op w = with_holds (filter (λ hold. not (hold.op == op)) w.holds) w

pub all_none : (op : ℕ) (w : World) → HasNone op (all_freed op w)
all_none op w page = list_any_gone (is_of page op) (λ hold. not (hold.op == op)) w.holds (λ hold of. ap not (eq-eqb hold.op op (is_of_parts page op hold of).1))

pub begin_again : (walk : Walk) (from : Stage) (w mid now : World) → Stands walk from w → ((here : Stands walk from w) → IsTidy walk.op w) → mid ≡ w → now ≡ all_freed walk.op mid → Stepped walk stage.Start w now
begin_again walk from w mid now stands tidy same gives = subst (Stepped walk stage.Start w) (sym (gives ∙ ap (all_freed walk.op) same))
    (stepped_by walk from stage.Start w (all_freed walk.op w) stands (λ here. IsStep-latches walk.op w (all_freed walk.op w) here.apart (ChangesLatches-free_all walk.op w)) (λ here. (tidy here, all_none walk.op w)))

pub again_keys : (walk : Walk) (from : Stage) (w mid now : World) → Stands walk from w → mid ≡ w → now ≡ all_freed walk.op mid → KeepsKeys w now
again_keys walk from w mid now stands same gives = subst (KeepsKeys w) (sym (gives ∙ ap (all_freed walk.op) same)) (KeepsKeys-latches walk.op w (all_freed walk.op w) (stands.apart) (ChangesLatches-free_all walk.op w))

-- the search goes on to the next leaf, keeping this one
next_passed : (w : World) (at : Root) (t : Tree) (leaves : List ℕ) (op : ℕ) (above : Bool) (target : Target) (page : ℕ) (node : NodeValue) (high : Pair) → IsTree w at t leaves → (reached : IsReachedBySearch w t op above target page) → has_latch op page w ≡ true → page_at w page ≡ Holds node → AllPass (is_ahead above target) (pairs_in node) → node.high ≡ Some high → HasPassed w t op above target (Some high)
next_passed w at t leaves op above target page node high tree reached latched is clear ends x u leaf under =
    let place = reached.1 in
    let same_node : node ≡ place.node = one_node w page place.node node place.is is in
    let here = tree.all page place.node place.is place.of place.kind place.linked in
    let there = tree.all x u leaf.is leaf.of leaf.leaf leaf.linked in
    ⊎_elim
    (λ lower. reached.2 x u leaf lower)
    (λ from.
    let one : x ≡ page = one_leaf w t tree.roles (link_to None t.first) leaves tree.linked x page u node high there here leaf.is is (subst (λ low. LowLe low u.low) (sym (ap (λ (n : NodeValue). n.low) same_node ∙ place.from)) from) ends under in
    let also : u ≡ node = one_node w page node u is (sym (ap (page_at w) one) ∙ leaf.is) in
    inr (subst (λ p. has_latch op p w ≡ true) (sym one) latched, subst (λ (n : NodeValue). AllPass (is_ahead above target) (pairs_in n)) (sym also) clear))
    (lower_or_not u.low reached.0)

pub shared_right : (walk : Walk) (above : Bool) (page : ℕ) (node : NodeValue) (q : ℕ) (w now : World) → Stands walk (stage.Shared page above) w → page_at w page ≡ Holds node → now ≡ w → AllPass (is_ahead above walk.target) (pairs_in node) → place.Right q ≡ next_place node Last → Stepped walk (stage.Share q above) w now
shared_right walk above page node q w now stands is same clear on = stepped_same walk (stage.Share q above) w now same (
    let here = stands in
    let reached = here.place.1 in
    let at_page = reached.1 in
    let same_node : at_page.node ≡ node = one_node w page node at_page.node is at_page.is in
    let of : IsOf here.tree node = subst (IsOf here.tree) same_node at_page.of in
    let role = here.is.roles page node is of at_page.linked in
    let leaf : node.leaf ≡ true = sym (ap (λ (n : NodeValue). n.leaf) same_node) ∙ at_page.kind in
    by_high here node.high refl role leaf)
  where
    by_high : (here : Stands walk (stage.Shared page above) w) (high : Option Pair) → node.high ≡ high → IsInRole w here.tree node → node.leaf ≡ true → Stands walk (stage.Share q above) w
    by_high here None told role leaf = absurd (none_right (subst (λ bound. place.Right q ≡ next_place (record node { high = bound }) Last) told on) leaf)
      where
        none_right : place.Right q ≡ next_place (record node { high = None }) Last → node.leaf ≡ true → ⊥
        none_right on leaf = ⊎_elim
            (λ at_pair. (let no : place.Right q ≡ place.Here (prefix_len (is_ahead false Last) (pairs_in node)) = on ∙ cond-true node.leaf _ _ leaf ∙ at_pair in absurd (cc)))
            (λ at_end. (let no : place.Right q ≡ place.End = on ∙ cond-true node.leaf _ _ leaf ∙ at_end in absurd (cc)))
            (here_or_end (pairs_in node) (prefix_len (is_ahead false Last) (pairs_in node)))
    by_high here (Some high) told role leaf =
        let next : next_place node Last ≡ place.Right node.right = ap (λ bound. next_place (record node { high = bound }) Last) told in
        let both : place.Right q ≡ place.Right node.right = on ∙ next in
        let page_is : q ≡ node.right = cc in
        let there : IsAt w here.tree node.leaf (Some high) node.right = role.right (record { low = Some high; page = node.right }) (ap (link_by node.right) told) in
        let found : IsAt w here.tree true (Some high) q = subst (λ p. IsAt w here.tree true (Some high) p) (sym page_is) (subst (λ kind. IsAt w here.tree kind (Some high) node.right) leaf there) in
        at_stage walk (stage.Shared page above) (stage.Share q above) w here (here.place.0, (Some high, found, next_passed w walk.at here.tree here.leaves walk.op above walk.target page node high here.is here.place.1 here.place.2 is clear told))

-- none of an operation's latches stands once all are given back
pub none_left : (op page : ℕ) (w mid now : World) → mid ≡ w → now ≡ all_freed op mid → has_latch op page now ≡ false
none_left op page w mid now same gives = ap (has_latch op page) gives ∙ list_any_gone (is_of page op) (λ hold. not (hold.op == op)) mid.holds (λ hold of. ap not (eq-eqb hold.op op (is_of_parts page op hold of).1))

-- the leaf was cut before it was shared: it is given back, and the walk goes on
pub shared_past : (walk : Walk) (above : Bool) (page : ℕ) (node : NodeValue) (q : ℕ) (w mid now : World) → Stands walk (stage.Shared page above) w → page_at w page ≡ Holds node → mid ≡ w → now ≡ all_freed walk.op mid → place.Right q ≡ next_place node walk.target → Stepped walk (stage.Down q) w now
shared_past walk above page node q w mid now stands is same gives on = subst (Stepped walk (stage.Down q) w) (sym (gives ∙ ap (all_freed walk.op) same))
    (stepped_by walk (stage.Shared page above) (stage.Down q) w (all_freed walk.op w) stands (λ here. IsStep-latches walk.op w (all_freed walk.op w) here.apart (ChangesLatches-free_all walk.op w))
    (λ here.
    let near = past_near here in
    let step = IsStep-latches walk.op w (all_freed walk.op w) here.apart (ChangesLatches-free_all walk.op w) in
    (here.place.0, (near.0, near.1, step.at here.tree near.0 near.1 q near.2, near.3), all_none walk.op w)))
  where
    past_near : (here : Stands walk (stage.Shared page above) w) → IsNear w here.tree walk.target q
    past_near here = ⊎_elim past on_here (cases_Bool (is_past node.high walk.target))
      where
        same_node : here.place.1.1.node ≡ node
        same_node = one_node w page node here.place.1.1.node is here.place.1.1.is

        role : IsInRole w here.tree node
        role = here.is.roles page node is (subst (IsOf here.tree) same_node here.place.1.1.of) here.place.1.1.linked

        past : is_past node.high walk.target ≡ true → IsNear w here.tree walk.target q
        past over =
            let both : place.Right node.right ≡ place.Right q = sym (next_past node walk.target over) ∙ sym on in
            let page_is : node.right ≡ q = cc in
            let found = right_at_of w here.tree node walk.target role over in
            subst (IsNear w here.tree walk.target) page_is (node.leaf, Some found.0, found.1, found.2)

        on_here : is_past node.high walk.target ≡ false → IsNear w here.tree walk.target q
        on_here within =
            let leaf : node.leaf ≡ true = sym (ap (λ (n : NodeValue). n.leaf) same_node) ∙ here.place.1.1.kind in
            ⊎_elim
            (λ at_pair. (let no : place.Right q ≡ place.Here (prefix_len (is_ahead false walk.target) (pairs_in node)) = on ∙ next_leaf node walk.target within leaf ∙ at_pair in absurd (cc)))
            (λ at_end. (let no : place.Right q ≡ place.End = on ∙ next_leaf node walk.target within leaf ∙ at_end in absurd (cc)))
            (here_or_end (pairs_in node) (prefix_len (is_ahead false walk.target) (pairs_in node)))

-- a leaf that a search has leads no further down
pub shared_not_down : (walk : Walk) (above : Bool) (page : ℕ) (node : NodeValue) (q : ℕ) (w mid : World) → Stands walk (stage.Shared page above) w → page_at w page ≡ Holds node → mid ≡ w → place.Down q ≡ next_place node Last → ⊥
shared_not_down walk above page node q w mid stands is same on = (
    let here = stands in
    let same_node : here.place.1.1.node ≡ node = one_node w page node here.place.1.1.node is here.place.1.1.is in
    let leaf : node.leaf ≡ true = sym (ap (λ (n : NodeValue). n.leaf) same_node) ∙ here.place.1.1.kind in
    ⊎_elim
    (λ past. (let no : place.Down q ≡ place.Right node.right = on ∙ next_past node Last past in absurd (cc)))
    (λ within. ⊎_elim
    (λ at_pair. (let no : place.Down q ≡ place.Here (prefix_len (is_ahead false Last) (pairs_in node)) = on ∙ next_leaf node Last within leaf ∙ at_pair in absurd (cc)))
    (λ at_end. (let no : place.Down q ≡ place.End = on ∙ next_leaf node Last within leaf ∙ at_end in absurd (cc)))
    (here_or_end (pairs_in node) (prefix_len (is_ahead false Last) (pairs_in node))))
    (cases_Bool (is_past node.high Last)))

-- a search ends
pub end_stepped : (walk : Walk) (from : Stage) (w now : World) → Stands walk from w → now ≡ all_freed walk.op w → Stepped walk stage.Ended w now
end_stepped walk from w now stands gives = subst (Stepped walk stage.Ended w) (sym gives)
    (stepped_by walk from stage.Ended w (all_freed walk.op w) stands (λ here. IsStep-latches walk.op w (all_freed walk.op w) here.apart (ChangesLatches-free_all walk.op w)) (λ here. all_none walk.op w))

pub shared_tidy : (walk : Walk) (above : Bool) (page : ℕ) (w mid : World) → Stands walk (stage.Shared page above) w → mid ≡ w → IsTidy walk.op mid
shared_tidy walk above page w mid stands same = subst (IsTidy walk.op) (sym same) stands.place.0

pub share_tidy : (walk : Walk) (above : Bool) (page : ℕ) (w mid : World) → Stands walk (stage.Share page above) w → mid ≡ w → IsTidy walk.op mid
share_tidy walk above page w mid stands same = subst (IsTidy walk.op) (sym same) stands.place.0

pub leaf_tidy : (walk : Walk) (page : ℕ) (w mid : World) → Stands walk (stage.Leaf page) w → mid ≡ w → IsTidy walk.op mid
leaf_tidy walk page w mid stands same = subst (IsTidy walk.op) (sym same) stands.place.0

-- an operation that has ended has no latch
pub ended_none : (walk : Walk) (to : Stage) (w now : World) → Stepped walk to w now → to ≡ stage.Ended → HasNone walk.op now
ended_none walk to w now stepped ended =
    let stands : Stands walk stage.Ended now = subst (λ at. Stands walk at now) ended stepped.stands in
    stands.place
