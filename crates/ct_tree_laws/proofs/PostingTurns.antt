-- The turns that post a separator: the node above is found, made the operation's own, and written.
use Rattle.std.proofs.Common.{◌≡◌, ℕ, ◌+◌, ◌-◌, ◌*◌, ◌/◌, ◌<◌, ◌≤◌, Bool, true, false, List, ◌∷◌, length, map, is_some, refl, sym, ap, ◌∙◌, arith, subst, ⊎_elim, Option, Some, None, find}
use Rattle.std.specs.Prelude.{nat_lt}
use Rattle.std.proofs.lemmas.Bool.{cases_Bool, false≢true, true≢false, and_parts, or_parts, ltb-false}
use Rattle.ct_latch.specs.Latches.{bars, with_hold}
use Rattle.ct_node.specs.declared.root.IndexRow.{IndexRow}
use Rattle.ct_node.specs.declared.target.Target.TheVariants.{At}
use Rattle.ct_node.specs.declared.target.Place.TheVariants as place
use Rattle.ct_node.specs.Nodes.{NodeValue, IsNode, pair_in, pairs_in, has_pair, is_within, is_from, is_below, with_entry, capacity_of}
use Rattle.ct_node.specs.Roles.{begins_at_low}
use Rattle.ct_node.specs.Places.{is_past, next_place}
use Rattle.ct_node.specs.Worlds.{World, Holds, page_at, IsBeside, with_holds, edited, row_in, IsHeld, PostsChild, IsTidy}
use Rattle.ct_node.proofs.Orders.{same}
use Rattle.ct_tree_laws.specs.declared.walk.Walk.{Walk}
use Rattle.ct_tree_laws.specs.declared.walk.Stage.{Stage}
use Rattle.ct_tree_laws.specs.declared.walk.Stage.TheVariants as stage
use Rattle.ct_tree_laws.specs.declared.rise.Separator.{Separator}
use Rattle.ct_tree_laws.specs.declared.rise.Rise.TheVariants as rise
use Rattle.ct_tree_laws.specs.Trees.{Tree, IsAt, IsInner, IsTree, IsApart, IsNear, Chain}
use Rattle.ct_tree_laws.specs.Stands.{HasNone, IsSeparator, IsAbove, IsAboveIf, IsChosen, IsHalf, IsAtStage, Stands, Stepped, KeepsKeys, after_post}
use Rattle.ct_tree_laws.proofs.Taking.{owned, ChangesLatches-own, has_own-with_hold_new}
use Rattle.ct_tree_laws.proofs.Pages.{page_at-edited_other}
use Rattle.ct_tree_laws.proofs.Levels.{beside_kept, one_above_kept, one_above_beside, beside_one_above}
use Rattle.ct_tree_laws.proofs.Kept.{KeepsLinks}
use Rattle.ct_tree_laws.proofs.Chains.{one_node}
use Rattle.ct_tree_laws.proofs.Steps.{IsStep, IsStep-next, IsStep-latches, IsStep-from_links}
use Rattle.ct_tree_laws.proofs.Keys.{Chain-same, KeepsKeys-latches, leaf_at}
use Rattle.ct_tree_laws.proofs.Walking.{IsSeen, seen_near, near_right, near_down, last_here, right_at_of, within_last, onward_of, past_beside, right_beside, down_above}
use Rattle.ct_tree_laws.proofs.Turns.{at_stage, stepped_same}
use Rattle.ct_tree_laws.proofs.Capacities.{full_enough}
use Rattle.ct_tree_laws.proofs.PutTurns.{stepped_by, freed, free_step, free_keys, freed_none, only_owned, tidy_edited}
use Rattle.ct_tree_laws.proofs.PostingEdits.{LeavesLinks-posts}
use Rattle.ct_tree_laws.proofs.PostingZeros.{first_below}

-- the root is read
pub root_row : (w : World) (walk : Walk) (t : Tree) (leaves : List ℕ) (tree : IsTree w walk.at t leaves) (row : IndexRow) → row_in walk.at.index (page_at w walk.at.page) ≡ Some row → row ≡ tree.row
root_row w walk t leaves tree row is =
    let both : Some row ≡ Some tree.row = sym is ∙ ap (row_in walk.at.index) tree.defined ∙ tree.named in cc

pub root_near : (walk : Walk) (from : Stage) (s : Separator) (page : ℕ) (w : World) (here : Stands walk from w) → (row : IndexRow) × (row_in walk.at.index (page_at w walk.at.page) ≡ Some row) × (page ≡ row.root) → IsNear w here.tree (At s.low) page
root_near walk from s page w here told =
    let row = root_row w walk here.tree here.leaves here.is told.0 told.1 in
    let root : page ≡ here.is.row.root = told.2 ∙ ap (λ (r : IndexRow). r.root) row in
    (here.is.root.0, None, subst (IsAt w here.tree here.is.root.0 None) (sym root) here.is.root.1, tt)

pub root_again : (walk : Walk) (s : Separator) (w now : World) → Stands walk (stage.Post s rise.Root) w → now ≡ w → Stepped walk (stage.Post s rise.Again) w now
root_again walk s w now stands same = stepped_same walk (stage.Post s rise.Again) w now same (
    let here = stands in
    at_stage walk (stage.Post s rise.Root) (stage.Post s rise.Again) w here here.place)

pub root_down : (walk : Walk) (s : Separator) (page : ℕ) (w now : World) → Stands walk (stage.Post s rise.Root) w → now ≡ w → (row : IndexRow) × (row_in walk.at.index (page_at w walk.at.page) ≡ Some row) × (page ≡ row.root) → Stepped walk (stage.Post s (rise.Down page None)) w now
root_down walk s page w now stands same told = stepped_same walk (stage.Post s (rise.Down page None)) w now same (
    let here = stands in
    at_stage walk (stage.Post s rise.Root) (stage.Post s (rise.Down page None)) w here
    (here.place.0, (here.place.1.0, root_near walk (stage.Post s rise.Root) s page w here told, tt, here.place.1.1)))

-- on the way to the child, or at it
pub way_above : (walk : Walk) (s : Separator) (page above : ℕ) (w : World) → page ≡ s.child → Stands walk (stage.Post s (rise.Down page (Some above))) w → Stands walk (stage.Post s (rise.Above above)) w
way_above walk s page above w child stands =
    let here = stands in
    at_stage walk (stage.Post s (rise.Down page (Some above))) (stage.Post s (rise.Above above)) w here (here.place.0, (here.place.1.0, subst (λ below. IsAbove w here.tree s below above) child here.place.1.2, here.place.1.3))

pub way_ends : (walk : Walk) (s : Separator) (page : ℕ) (above : Option ℕ) (w : World) → Stands walk (stage.Post s (rise.Down page above)) w → Stands walk stage.Start w
way_ends walk s page above w stands =
    let here = stands in
    at_stage walk (stage.Post s (rise.Down page above)) stage.Start w here (here.place.1.0, here.place.1.3)

way_seen : (walk : Walk) (s : Separator) (page : ℕ) (above : Option ℕ) (node : NodeValue) (w : World) → page_at w page ≡ Holds node → (here : Stands walk (stage.Post s (rise.Down page above)) w) → IsSeen w here.tree (At s.low) page node
way_seen walk s page above node w is here = seen_near w walk.at here.tree here.leaves (At s.low) page node here.is here.place.1.1 is

-- what is one level above a page is one level above each page beside it
above_beside : (w : World) (t : Tree) (s : Separator) (page other : ℕ) (above : Option ℕ) → IsBeside w page other → IsAboveIf w t s page above → IsAboveIf w t s other above
above_beside w t s page other None beside is = tt
above_beside w t s page other (Some above) beside is = (is.0, is.1, is.2, one_above_beside w above page other is.3 beside)

pub way_right : (walk : Walk) (s : Separator) (page : ℕ) (above : Option ℕ) (node : NodeValue) (q : ℕ) (w : World) → Stands walk (stage.Post s (rise.Down page above)) w → page_at w page ≡ Holds node → place.Right q ≡ next_place node (At s.low) → Stands walk (stage.Post s (rise.Down q above)) w
way_right walk s page above node q w stands is on =
    let here = stands in
    let seen = way_seen walk s page above node w is here in
    let beside = right_beside w walk.at here.tree here.leaves (At s.low) page node q here.is seen (sym on) in
    at_stage walk (stage.Post s (rise.Down page above)) (stage.Post s (rise.Down q above)) w here
    (here.place.0, (here.place.1.0, near_right w here.tree (At s.low) page node q seen (sym on), above_beside w here.tree s page q above beside here.place.1.2, here.place.1.3))

pub way_down : (walk : Walk) (s : Separator) (page : ℕ) (above : Option ℕ) (node : NodeValue) (q : ℕ) (w : World) → Stands walk (stage.Post s (rise.Down page above)) w → page_at w page ≡ Holds node → place.Down q ≡ next_place node (At s.low) → Stands walk (stage.Post s (rise.Down q (Some page))) w
way_down walk s page above node q w stands is on =
    let here = stands in
    let seen = way_seen walk s page above node w is here in
    let near = near_down w here.tree (At s.low) page node q seen (sym on) in
    at_stage walk (stage.Post s (rise.Down page above)) (stage.Post s (rise.Down q (Some page))) w here
    (here.place.0, (here.place.1.0, near.0, (node.low, record { node = node; is = is; of = seen.of; key_len = seen.role.key_len; kind = near.1; from = refl; linked = seen.linked }, seen.low, down_above w walk.at here.tree here.leaves (At s.low) page node q here.is seen (sym on)), here.place.1.3))

pub way_stepped : (walk : Walk) (s : Separator) (page : ℕ) (above : Option ℕ) (to : Stage) (w now : World) → now ≡ w → Stands walk to w → Stepped walk to w now
way_stepped walk s page above to w now same stands = stepped_same walk to w now same stands

pub way_bad : (walk : Walk) (s : Separator) (page : ℕ) (above : Option ℕ) (node : NodeValue) (w now : World) → Stands walk (stage.Post s (rise.Down page above)) w → page_at w page ≡ Holds node → now ≡ w → place.End ≡ next_place node (At s.low) → node.leaf ≡ false → ⊥
way_bad walk s page above node w now stands is same on inner = (
    let here = stands in
    let last = last_here w here.tree (At s.low) page node place.End (way_seen walk s page above node w is here) (sym on) (λ q one. absurd (cc)) (λ q one. absurd (cc)) in
    true≢false (sym last.leaf ∙ inner))

-- a page becomes the operation's own
pub owned_step : (walk : Walk) (page : ℕ) (w : World) → find (bars page walk.op true) w.holds ≡ None → IsApart w → IsStep walk.op w (with_holds (with_hold (owned page walk.op) w.holds) w)
owned_step walk page w free apart = IsStep-latches walk.op w (with_holds (with_hold (owned page walk.op) w.holds) w) apart (ChangesLatches-own page walk.op w free)

pub owned_keys : (walk : Walk) (from : Stage) (page : ℕ) (w now : World) → Stands walk from w → find (bars page walk.op true) w.holds ≡ None → now ≡ with_holds (with_hold (owned page walk.op) w.holds) w → KeepsKeys w now
owned_keys walk from page w now stands free is = subst (KeepsKeys w) (sym is) (KeepsKeys-latches walk.op w (with_holds (with_hold (owned page walk.op) w.holds) w) (stands.apart) (ChangesLatches-own page walk.op w free))

-- what is known of a separator and of a node above stands after a step
pub separator_after : (op : ℕ) (w now : World) (t : Tree) (s : Separator) → IsStep op w now → IsSeparator w t s → IsSeparator now t s
separator_after op w now t s step is = (is.0, step.at t is.0 (Some s.low) s.child is.1, is.2, is.3, beside_kept w now s.left s.child step.levels is.4)

pub above_after : (op : ℕ) (w now : World) (t : Tree) (s : Separator) (page : ℕ) → IsStep op w now → IsAbove w t s s.child page → IsAbove now t s s.child page
above_after op w now t s page step is = (is.0, step.at t false is.0 page is.1, is.2, one_above_kept w now page s.child step.levels is.3)

pub above_owned : (walk : Walk) (s : Separator) (page : ℕ) (w now : World) → Stands walk (stage.Post s (rise.Above page)) w → find (bars page walk.op true) w.holds ≡ None → now ≡ with_holds (with_hold (owned page walk.op) w.holds) w → Stepped walk (stage.Post s (rise.Held page None)) w now
above_owned walk s page w now stands free is = subst (Stepped walk (stage.Post s (rise.Held page None)) w) (sym is)
    (stepped_by walk (stage.Post s (rise.Above page)) (stage.Post s (rise.Held page None)) w (with_holds (with_hold (owned page walk.op) w.holds) w) stands (λ here. owned_step walk page w free here.apart)
    (λ here.
    let step = owned_step walk page w free here.apart in
    let after = with_holds (with_hold (owned page walk.op) w.holds) w in (
      separator_after walk.op w after here.tree s step here.place.0,
      (here.place.1.0, above_after walk.op w after here.tree s page step here.place.1.1, has_own-with_hold_new page walk.op w, only_owned page walk.op w here.place.1.2, tt),
    )))

-- the node above, as the operation sees it
held_seen : (walk : Walk) (s : Separator) (page : ℕ) (next : Option Separator) (node : NodeValue) (w : World) → page_at w page ≡ Holds node → (here : Stands walk (stage.Post s (rise.Held page next)) w) → IsSeen w here.tree (At s.low) page node × (node.leaf ≡ false)
held_seen walk s page next node w is here =
    let above = here.place.1.1 in
    let same_node : above.1.node ≡ node = one_node w page node above.1.node is above.1.is in
    (seen_near w walk.at here.tree here.leaves (At s.low) page node here.is (false, above.0, above.1, above.2) is, sym (ap (λ (v : NodeValue). v.leaf) same_node) ∙ above.1.kind)

-- where the separator is not within its bounds, it is to the right
pub held_past : (walk : Walk) (s : Separator) (page : ℕ) (next : Option Separator) (node : NodeValue) (w : World) → page_at w page ≡ Holds node → is_within node.low node.high s.low ≡ false → Stands walk (stage.Post s (rise.Held page next)) w → is_past node.high (At s.low) ≡ true
held_past walk s page next node w is outside here = ⊎_elim
    (λ past. past)
    (λ within. absurd (false≢true (sym outside ∙ within_last node s.low (held_seen walk s page next node w is here).0.low within)))
    (cases_Bool (is_past node.high (At s.low)))

pub held_right : (walk : Walk) (s : Separator) (page : ℕ) (next : Option Separator) (node : NodeValue) (w mid now : World) → Stands walk (stage.Post s (rise.Held page next)) w → page_at w page ≡ Holds node → is_within node.low node.high s.low ≡ false → mid ≡ w → now ≡ freed page walk.op mid → Stepped walk (stage.Post s (rise.Above node.right)) w now
held_right walk s page next node w mid now stands is outside same gives = subst (Stepped walk (stage.Post s (rise.Above node.right)) w) (sym (gives ∙ ap (freed page walk.op) same))
    (stepped_by walk (stage.Post s (rise.Held page next)) (stage.Post s (rise.Above node.right)) w (freed page walk.op w) stands (λ here. free_step page walk.op w here.apart)
    (λ here.
    let step = free_step page walk.op w here.apart in
    let seen = held_seen walk s page next node w is here in
    let found = right_at_of w here.tree node (At s.low) seen.0.role (held_past walk s page next node w is outside here) in
    let right : IsAt w here.tree false (Some found.0) node.right = subst (λ kind. IsAt w here.tree kind (Some found.0) node.right) seen.1 found.1 in
    let level = beside_one_above w page node.right s.child (past_beside w walk.at here.tree here.leaves (At s.low) page node here.is seen.0 (held_past walk s page next node w is outside here)) here.place.1.1.3 in (
      separator_after walk.op w (freed page walk.op w) here.tree s step here.place.0,
      (here.place.1.0, above_after walk.op w (freed page walk.op w) here.tree s node.right step (Some found.0, right, found.2, level), freed_none page walk.op w here.place.1.3),
    )))

-- a half of a split has the separator within its bounds, and room for it
half_of : (w : World) (t : Tree) (op : ℕ) (s : Separator) (page : ℕ) (next : Option Separator) → is_some next ≡ true → IsHalf w t op s page next → (node : NodeValue) × IsChosen w t op s page node × (length node.entries + 1 < capacity_of node.key_len false)
half_of w t op s page None some half = absurd (false≢true some)
half_of w t op s page (Some next) some half = half.1

pub half_within : (walk : Walk) (s : Separator) (page : ℕ) (next : Option Separator) (node : NodeValue) (w mid : World) → Stands walk (stage.Post s (rise.Held page next)) w → page_at w page ≡ Holds node → mid ≡ w → is_some next ≡ true → is_within node.low node.high s.low ≡ false → ⊥
half_within walk s page next node w mid stands is same some outside = (
    let here = stands in
    let half = half_of w here.tree walk.op s page next some here.place.1.4 in
    let one : half.0 ≡ node = one_node w page node half.0 is half.1.is in
    false≢true (sym outside ∙ subst (λ (v : NodeValue). is_within v.low v.high s.low ≡ true) one half.1.within))

pub half_fits : (walk : Walk) (s : Separator) (page : ℕ) (next : Option Separator) (node : NodeValue) (w mid : World) → Stands walk (stage.Post s (rise.Held page next)) w → page_at w page ≡ Holds node → mid ≡ w → is_some next ≡ true → (length node.entries < capacity_of node.key_len node.leaf → ⊥) → ⊥
half_fits walk s page next node w mid stands is same some full = (
    let here = stands in
    let half = half_of w here.tree walk.op s page next some here.place.1.4 in
    let one : half.0 ≡ node = one_node w page node half.0 is half.1.is in
    let room : length node.entries + 1 < capacity_of node.key_len false = subst (λ (v : NodeValue). length v.entries + 1 < capacity_of v.key_len false) one half.2 in
    let less : length node.entries < capacity_of node.key_len false = omega arith in
    full (subst (λ kind. length node.entries < capacity_of node.key_len kind) (sym (held_seen walk s page next node w is here).1) less))

-- and for one more entry
pub half_roomy : (walk : Walk) (s : Separator) (page : ℕ) (next : Option Separator) (node : NodeValue) (w mid : World) → Stands walk (stage.Post s (rise.Held page next)) w → page_at w page ≡ Holds node → mid ≡ w → is_some next ≡ true → (length node.entries + 1 < capacity_of node.key_len node.leaf → ⊥) → ⊥
half_roomy walk s page next node w mid stands is same some full = (
    let here = stands in
    let half = half_of w here.tree walk.op s page next some here.place.1.4 in
    let one : half.0 ≡ node = one_node w page node half.0 is half.1.is in
    let room : length node.entries + 1 < capacity_of node.key_len false = subst (λ (v : NodeValue). length v.entries + 1 < capacity_of v.key_len false) one half.2 in
    full (subst (λ kind. length node.entries + 1 < capacity_of node.key_len kind) (sym (held_seen walk s page next node w is here).1) room))

-- the node is one that the separator may be posted to
pub held_for : (walk : Walk) (s : Separator) (page : ℕ) (next : Option Separator) (node : NodeValue) (w : World) → page_at w page ≡ Holds node → (here : Stands walk (stage.Post s (rise.Held page next)) w) → (node.leaf ≡ false) × (node.key_len ≡ length s.low.key) × IsInner w here.tree node
held_for walk s page next node w is here =
    let seen = held_seen walk s page next node w is here in
    (seen.1, seen.0.role.key_len ∙ sym here.place.0.2, seen.0.role.inner seen.1)

pub begins_inner : (w : World) (t : Tree) (node : NodeValue) → node.leaf ≡ false → IsInner w t node → begins_at_low node ≡ true
begins_inner w t node leaf inner =
    let start : pairs_in node ≡ inner.first.pair ∷ map pair_in inner.rest = ap (map pair_in) inner.is in
    rw (leaf, start) inner.begins

-- the separator is there: the node is given back
done_place : (op : ℕ) (w now : World) (t : Tree) (target : _) (s : Separator) (page : ℕ) (next : Option Separator) → IsStep op w now → IsTidy op now → HasNone op now → IsHalf w t op s page next → IsAtStage now t op target (after_post next)
done_place op w now t target s page None step tidy none half = (tidy, none)
done_place op w now t target s page (Some next) step tidy none half = (separator_after op w now t next step half.0, (tidy, none))

pub held_done : (walk : Walk) (s : Separator) (page : ℕ) (next : Option Separator) (w now : World) → Stands walk (stage.Post s (rise.Held page next)) w → now ≡ freed page walk.op w → Stepped walk (after_post next) w now
held_done walk s page next w now stands gives = subst (Stepped walk (after_post next) w) (sym gives)
    (stepped_by walk (stage.Post s (rise.Held page next)) (after_post next) w (freed page walk.op w) stands (λ here. free_step page walk.op w here.apart)
    (λ here. done_place walk.op w (freed page walk.op w) here.tree walk.target s page next (free_step page walk.op w here.apart) here.place.1.0 (freed_none page walk.op w here.place.1.3) here.place.1.4))

pub rise_tidy : (walk : Walk) (s : Separator) (page : ℕ) (next : Option Separator) (w mid : World) → Stands walk (stage.Post s (rise.Held page next)) w → mid ≡ w → IsTidy walk.op mid
rise_tidy walk s page next w mid stands same = subst (IsTidy walk.op) (sym same) stands.place.1.0

-- a full node is to be split
pub held_full : (walk : Walk) (s : Separator) (page : ℕ) (next : Option Separator) (node : NodeValue) (w now : World) → Stands walk (stage.Post s (rise.Held page next)) w → now ≡ w → page_at w page ≡ Holds node → is_within node.low node.high s.low ≡ true → nat_lt (length node.entries) (capacity_of node.key_len node.leaf) ≡ false → Stepped walk (stage.Post s (rise.Full page)) w now
held_full walk s page next node w now stands same is within full = stepped_same walk (stage.Post s (rise.Full page)) w now same (
    let here = stands in
    let seen = held_seen walk s page next node w is here in
    at_stage walk (stage.Post s (rise.Held page next)) (stage.Post s (rise.Full page)) w here
    (here.place.0, (here.place.1.0, (node, (record { is = is; owned = here.place.1.2; linked = seen.0.linked; of = seen.0.of; inner = seen.1; within = within; level = here.place.1.1.3 }, full_enough node.key_len (length node.entries) node.leaf seen.0.role.node_is.short_key full, full)), here.place.1.3)))

-- the separator is posted
held_of : (walk : Walk) (s : Separator) (page : ℕ) (next : Option Separator) (node : NodeValue) (w : World) → page_at w page ≡ Holds node → (here : Stands walk (stage.Post s (rise.Held page next)) w) → IsHeld walk.op page node w
held_of walk s page next node w is here =
    let seen = (held_seen walk s page next node w is here).0 in
    record { is = is; owned = here.place.1.2; linked = seen.linked; onward = onward_of w here.tree node here.apart seen.role }

pub posts_child : (walk : Walk) (s : Separator) (page : ℕ) (next : Option Separator) (node new : NodeValue) (w : World) → page_at w page ≡ Holds node → is_within node.low node.high s.low ≡ true → has_pair s.low (pairs_in node) ≡ false → IsNode new → new ≡ record node { entries = with_entry (record { pair = s.low; child = s.child }) node.entries } → Stands walk (stage.Post s (rise.Held page next)) w → PostsChild walk.op page new w
posts_child walk s page next node new w is within absent sound made here =
    let seen = held_seen walk s page next node w is here in
    let role = seen.0.role in
    let inner = role.inner seen.1 in
    let below_it = here.place.0.1 in
    let key : length s.low.key ≡ node.key_len = here.place.0.2 ∙ sym role.key_len in
    let list : has_pair s.low (inner.first.pair ∷ map pair_in inner.rest) ≡ false = ap (has_pair s.low) (sym (ap (map pair_in) inner.is)) ∙ absent in
    let other : same inner.first.pair s.low ≡ false = (or_parts (same inner.first.pair s.low) (has_pair s.low (map pair_in inner.rest)) list).0 in
    let from = (and_parts (is_from node.low s.low) (is_below node.high s.low) within).0 in
    record {
      node = node;
      low = s.low;
      child = s.child;
      below = below_it.node;
      first = inner.first;
      rest = inner.rest;
      held = held_of walk s page next node w is here;
      inner = seen.1;
      key = key;
      entries = inner.is;
      above = first_below node.key_len node.low inner.first.pair s.low inner.begins key from other;
      absent = absent;
      within = within;
      there = record { is = below_it.is; linked = below_it.linked; file = below_it.of.file ∙ sym seen.0.of.file; index = below_it.of.index ∙ sym seen.0.of.index; key_len = below_it.key_len ∙ sym role.key_len; from = below_it.from };
      level = here.place.1.1.3;
      sound = sound;
      made = made;
    }

pub posted_tidy : (walk : Walk) (s : Separator) (page : ℕ) (next : Option Separator) (node new : NodeValue) (w mid : World) → Stands walk (stage.Post s (rise.Held page next)) w → page_at w page ≡ Holds node → mid ≡ edited walk.op page new w → IsTidy walk.op mid
posted_tidy walk s page next node new w mid stands is same =
    let here = stands in
    subst (IsTidy walk.op) (sym same) (tidy_edited walk.op page node new w (held_of walk s page next node w is here) here.place.1.0)

pub posted_stepped : (walk : Walk) (s : Separator) (page : ℕ) (next : Option Separator) (node new : NodeValue) (w mid now : World) → Stands walk (stage.Post s (rise.Held page next)) w → page_at w page ≡ Holds node → (Stands walk (stage.Post s (rise.Held page next)) w → PostsChild walk.op page new w) → mid ≡ edited walk.op page new w → now ≡ freed page walk.op mid → Stepped walk (after_post next) w now
posted_stepped walk s page next node new w mid now stands is posts same gives = subst (Stepped walk (after_post next) w) (sym (gives ∙ ap (freed page walk.op) same))
    (stepped_by walk (stage.Post s (rise.Held page next)) (after_post next) w (freed page walk.op (edited walk.op page new w)) stands step
    (λ here. done_place walk.op w (freed page walk.op (edited walk.op page new w)) here.tree walk.target s page next (step here) (tidy_edited walk.op page node new w (held_of walk s page next node w is here) here.place.1.0) (freed_none page walk.op (edited walk.op page new w) here.place.1.3) here.place.1.4))
  where
    step : Stands walk (stage.Post s (rise.Held page next)) w → IsStep walk.op w (freed page walk.op (edited walk.op page new w))
    step here =
        let first = IsStep-from_links walk.op w (edited walk.op page new w) (LeavesLinks-posts walk.op page new w here.apart (posts here)) in
        IsStep-next walk.op w (edited walk.op page new w) (freed page walk.op (edited walk.op page new w)) first (free_step page walk.op (edited walk.op page new w) first.apart)

-- an edit of an inner node leaves the pairs of the leaves
pub inner_keys : (op page : ℕ) (node new : NodeValue) (w : World) → page_at w page ≡ Holds node → node.leaf ≡ false → (KeepsLinks w (edited op page new w)) → KeepsKeys w (edited op page new w)
inner_keys op page node new w is inner links at keys chain = Chain-same w (edited op page new w) at keys links chain
    (λ q among. page_at-edited_other op page new w q (λ one.
    let leaf = (leaf_at w at chain.tree chain.leaves chain.is q among).1 in
    let same_node : leaf.node ≡ node = one_node w page node leaf.node is (sym (ap (page_at w) one) ∙ leaf.is) in
    true≢false (sym leaf.kind ∙ ap (λ (v : NodeValue). v.leaf) same_node ∙ inner)))

pub posted_keys : (walk : Walk) (s : Separator) (page : ℕ) (next : Option Separator) (node new : NodeValue) (w mid now : World) → Stands walk (stage.Post s (rise.Held page next)) w → page_at w page ≡ Holds node → (Stands walk (stage.Post s (rise.Held page next)) w → PostsChild walk.op page new w) → mid ≡ edited walk.op page new w → now ≡ freed page walk.op mid → KeepsKeys w now
posted_keys walk s page next node new w mid now stands is posts same gives at keys chain =
    let here = stands in
    let leaves = LeavesLinks-posts walk.op page new w here.apart (posts here) in
    let first = inner_keys walk.op page node new w is (held_seen walk s page next node w is here).1 leaves.links at keys chain in
    subst (λ v. Chain v at keys) (sym (gives ∙ ap (freed page walk.op) same)) (free_keys page walk.op (edited walk.op page new w) leaves.apart at keys first)
