-- The turns of a put: each ends at a stage that stands, keeps what others remember, and changes the pairs by its own one at most.
use Rattle.std.proofs.Common.{◌≡◌, ℕ, ◌≤◌, true, false, not, cond, List, [], ◌∷◌, length, refl, sym, ap, ◌∙◌, subst, ⊎_elim, None, filter}
use Rattle.std.specs.Prelude.{find}
use Rattle.std.proofs.lemmas.Bool.{cases_Bool, false≢true, true≢false, cond-true, cond-false, or_parts, false_from_ne_true}
use Rattle.ct_latch.specs.Latches.{is_of, bars, with_hold}
use Rattle.std.specs.Ordering.{is_eq}
use Rattle.ct_definitions.specs.Pairs.{Pair, pair_cmp, with_pair}
use Rattle.ct_node.specs.declared.root.Root.{Root}
use Rattle.ct_node.specs.declared.target.Target.TheVariants.{At}
use Rattle.ct_node.specs.declared.target.Place.TheVariants as place
use Rattle.ct_node.specs.Nodes.{NodeValue, IsNode, pairs_in, has_pair, is_within, with_entry, has_other_pair}
use Rattle.ct_node.specs.Places.{is_past, next_place}
use Rattle.ct_node.specs.Worlds.{World, Holds, page_at, has_latch, has_fresh, with_holds, edited, IsHeld, PutsPair, TakesPair, IsTidy}
use Rattle.ct_tree_laws.specs.declared.walk.Walk.{Walk}
use Rattle.ct_tree_laws.specs.declared.walk.Stage.{Stage}
use Rattle.ct_tree_laws.specs.declared.walk.Stage.TheVariants as stage
use Rattle.ct_tree_laws.specs.Trees.{IsTree, IsApart, IsLowFor, Chain, joined}
use Rattle.ct_tree_laws.specs.Stands.{HasNone, HasOnly, IsAtStage, Stands, Stepped, KeepsKeys, ChangesKeys, is_same_root, added, without, IsPacked}
use Rattle.ct_tree_laws.proofs.Taking.{owned, is_of_parts, ChangesLatches-own, ChangesLatches-free, has_own-with_hold_new}
use Rattle.ct_tree_laws.proofs.Pages.{page_at-edited_other, has_fresh_before}
use Rattle.ct_tree_laws.proofs.Holders.{list_any_gone, list_any_filtered, list_any-with_hold_old}
use Rattle.ct_tree_laws.proofs.Steps.{IsStep, IsStep-next, IsStep-latches, IsStep-from_links}
use Rattle.ct_tree_laws.proofs.Edits.{LeavesLinks-puts, LeavesLinks-takes, not_theirs_held}
use Rattle.ct_tree_laws.proofs.Memory.{Keeps-step}
use Rattle.ct_tree_laws.proofs.Keys.{KeepsKeys-latches, ChangesKeys-puts, ChangesKeys-takes, has_pair-joined, one_tree, same_root}
use Rattle.ct_tree_laws.proofs.Walking.{IsSeen, seen_leaf, near_right, near_down, within_last, onward_of}
use Rattle.ct_tree_laws.proofs.Capacities.{full_enough}
use Rattle.ct_tree_laws.proofs.Turns.{at_stage}

-- the same operation after a step
pub stands_after : (walk : Walk) (from to : Stage) (w now : World) (stands : Stands walk from w) → IsStep walk.op w now → IsAtStage now stands.tree walk.op walk.target to → Stands walk to now
stands_after walk from to w now stands step place =
    let after = step.tree walk.at stands.tree stands.leaves stands.is in
    record { tree = stands.tree; leaves = after.0; is = after.1; apart = step.apart; key = stands.key; place = place }

-- a turn that makes a step
pub stepped_by : (walk : Walk) (from to : Stage) (w now : World) → Stands walk from w → (Stands walk from w → IsStep walk.op w now) → ((stands : Stands walk from w) → IsAtStage now stands.tree walk.op walk.target to) → Stepped walk to w now
stepped_by walk from to w now stands step place = record {
  stands = stands_after walk from to w now stands (step stands) (place stands);
  keeps = Keeps-step walk.op w now (step stands);
  levels = (step stands).levels;
  at = (step stands).at;
}

abbrev pub freed : ℕ → ℕ → World → World
freed page op w = with_holds (filter (λ hold. not (is_of page op hold)) w.holds) w

pub free_step : (page op : ℕ) (w : World) → IsApart w → IsStep op w (freed page op w)
free_step page op w apart = IsStep-latches op w (freed page op w) apart (ChangesLatches-free page op w)

pub free_keys : (page op : ℕ) (w : World) → (IsApart w) → KeepsKeys w (freed page op w)
free_keys page op w apart = KeepsKeys-latches op w (freed page op w) apart (ChangesLatches-free page op w)

-- what is given back is all that the operation had
pub freed_none : (page op : ℕ) (w : World) → HasOnly op page w → HasNone op (freed page op w)
freed_none page op w only q = false_from_ne_true (has_latch op q (freed page op w)) (λ latched.
    let one : q ≡ page = only q (list_any_filtered (is_of q op) (λ hold. not (is_of page op hold)) w.holds latched) in
    false≢true (sym (list_any_gone (is_of page op) (λ hold. not (is_of page op hold)) w.holds (λ hold of. ap not of)) ∙ subst (λ p. has_latch op p (freed page op w) ≡ true) one latched))

pub only_owned : (page op : ℕ) (w : World) → HasNone op w → HasOnly op page (with_holds (with_hold (owned page op) w.holds) w)
only_owned page op w none q latched = ⊎_elim (λ new. sym (is_of_parts q op (owned page op) new).0) (λ old. absurd (false≢true (sym (none q) ∙ old))) (list_any-with_hold_old (is_of q op) (owned page op) w.holds latched)

-- the leaf becomes the operation's own
pub own_stepped : (walk : Walk) (page : ℕ) (w now : World) → Stands walk (stage.Leaf page) w → find (bars page walk.op true) w.holds ≡ None → now ≡ with_holds (with_hold (owned page walk.op) w.holds) w → Stepped walk (stage.Held page) w now
own_stepped walk page w now stands free is = subst (Stepped walk (stage.Held page) w) (sym is)
    (stepped_by walk (stage.Leaf page) (stage.Held page) w (with_holds (with_hold (owned page walk.op) w.holds) w) stands step
    (λ here. (here.place.0, (here.place.1.0, (step here).at here.tree true here.place.1.0 page here.place.1.1, here.place.1.2), has_own-with_hold_new page walk.op w, only_owned page walk.op w here.place.2)))
  where
    step : Stands walk (stage.Leaf page) w → IsStep walk.op w (with_holds (with_hold (owned page walk.op) w.holds) w)
    step here = IsStep-latches walk.op w (with_holds (with_hold (owned page walk.op) w.holds) w) here.apart (ChangesLatches-own page walk.op w free)

pub own_keys : (walk : Walk) (page : ℕ) (w now : World) → Stands walk (stage.Leaf page) w → find (bars page walk.op true) w.holds ≡ None → now ≡ with_holds (with_hold (owned page walk.op) w.holds) w → KeepsKeys w now
own_keys walk page w now stands free is = subst (KeepsKeys w) (sym is) (KeepsKeys-latches walk.op w (with_holds (with_hold (owned page walk.op) w.holds) w) (stands.apart) (ChangesLatches-own page walk.op w free))

-- a leaf that the operation has, as it sees it
pub held_seen : (walk : Walk) (page : ℕ) (node : NodeValue) (w : World) → page_at w page ≡ Holds node → (here : Stands walk (stage.Held page) w) → IsSeen w here.tree walk.target page node × (node.leaf ≡ true)
held_seen walk page node w is here = seen_leaf w walk.at here.tree here.leaves walk.target page node here.is here.place.1 is

pub held_of : (walk : Walk) (page : ℕ) (node : NodeValue) (w : World) → page_at w page ≡ Holds node → (here : Stands walk (stage.Held page) w) → IsHeld walk.op page node w
held_of walk page node w is here =
    let seen = (held_seen walk page node w is here).0 in
    record { is = is; owned = here.place.2; linked = seen.linked; onward = onward_of w here.tree node here.apart seen.role }

-- the leaf is given back, and the walk goes on to the right
pub held_right : (walk : Walk) (page : ℕ) (node : NodeValue) (q : ℕ) (w mid now : World) → Stands walk (stage.Held page) w → page_at w page ≡ Holds node → mid ≡ w → now ≡ freed page walk.op mid → place.Right q ≡ next_place node walk.target → Stepped walk (stage.Down q) w now
held_right walk page node q w mid now stands is same gives on = subst (Stepped walk (stage.Down q) w) (sym (gives ∙ ap (freed page walk.op) same))
    (stepped_by walk (stage.Held page) (stage.Down q) w (freed page walk.op w) stands (λ here. free_step page walk.op w here.apart)
    (λ here.
    let near = near_right w here.tree walk.target page node q (held_seen walk page node w is here).0 (sym on) in
    (here.place.0, (near.0, near.1, (free_step page walk.op w here.apart).at here.tree near.0 near.1 q near.2, near.3), freed_none page walk.op w here.place.3)))

pub freed_keys : (walk : Walk) (from : Stage) (page : ℕ) (w mid now : World) → Stands walk from w → mid ≡ w → now ≡ freed page walk.op mid → KeepsKeys w now
freed_keys walk from page w mid now stands same gives = subst (KeepsKeys w) (sym (gives ∙ ap (freed page walk.op) same)) (free_keys page walk.op w (stands.apart))

pub held_tidy : (walk : Walk) (page : ℕ) (w mid : World) → Stands walk (stage.Held page) w → mid ≡ w → IsTidy walk.op mid
held_tidy walk page w mid stands same = subst (IsTidy walk.op) (sym same) stands.place.0

pub held_not_down : (walk : Walk) (page : ℕ) (node : NodeValue) (q : ℕ) (w mid : World) → Stands walk (stage.Held page) w → page_at w page ≡ Holds node → mid ≡ w → place.Down q ≡ next_place node walk.target → ⊥
held_not_down walk page node q w mid stands is same on = (
    let here = stands in
    let seen = held_seen walk page node w is here in
    true≢false (sym seen.1 ∙ (near_down w here.tree walk.target page node q seen.0 (sym on)).1))

-- the target's leaf is one that its pair may stand in
pub held_is_for : (walk : Walk) (page : ℕ) (node : NodeValue) (pair : Pair) (w : World) → page_at w page ≡ Holds node → walk.target ≡ At pair → is_past node.high walk.target ≡ false → (here : Stands walk (stage.Held page) w) → (node.leaf ≡ true) × (node.key_len ≡ length pair.key) × (is_within node.low node.high pair ≡ true)
held_is_for walk page node pair w is target past here =
    let seen = held_seen walk page node w is here in
    (seen.1, seen.0.role.key_len ∙ sym (here.key pair target), within_last node pair (subst (λ goal. IsLowFor goal node.low) target seen.0.low) (ap (is_past node.high) (sym target) ∙ past))

-- the pair is there: the leaf is given back
pub held_ended : (walk : Walk) (page : ℕ) (w now : World) → Stands walk (stage.Held page) w → now ≡ freed page walk.op w → Stepped walk stage.Ended w now
held_ended walk page w now stands gives = subst (Stepped walk stage.Ended w) (sym gives)
    (stepped_by walk (stage.Held page) stage.Ended w (freed page walk.op w) stands (λ here. free_step page walk.op w here.apart) (λ here. freed_none page walk.op w here.place.3))

-- the pairs of the operation's own index
keys_of_own : (walk : Walk) (from : Stage) (w : World) (here : Stands walk from w) (at : Root) (keys : List Pair) → Chain w at keys → is_same_root at walk.at ≡ true → (leaves : List ℕ) × IsTree w walk.at here.tree leaves × (joined w leaves ≡ keys)
keys_of_own walk from w here at keys chain same =
    let told : IsTree w walk.at chain.tree chain.leaves = subst (λ root. IsTree w root chain.tree chain.leaves) (same_root at walk.at same) chain.is in
    (chain.leaves, subst (λ t. IsTree w walk.at t chain.leaves) (one_tree w walk.at here.tree chain.tree here.leaves chain.leaves here.is told) told, chain.keys_are)

pub present_keys : (walk : Walk) (page : ℕ) (node : NodeValue) (pair : Pair) (w now : World) → Stands walk (stage.Held page) w → page_at w page ≡ Holds node → is_within node.low node.high pair ≡ true → has_pair pair (pairs_in node) ≡ true → now ≡ freed page walk.op w → ChangesKeys walk.at (added pair) w now
present_keys walk page node pair w now stands is within has gives at keys chain = ⊎_elim mine other (cases_Bool (is_same_root at walk.at))
  where
    kept : Chain now at keys
    kept = freed_keys walk (stage.Held page) page w w now stands refl gives at keys chain

    mine : is_same_root at walk.at ≡ true → Chain now at (cond (is_same_root at walk.at) (added pair keys) keys)
    mine same =
        let here = stands in
        let own = keys_of_own walk (stage.Held page) w here at keys chain same in
        let seen = held_seen walk page node w is here in
        let there : has_pair pair keys ≡ true = ap (has_pair pair) (sym own.2) ∙ has_pair-joined w walk.at here.tree own.0 page node pair own.1 seen.0.of is seen.1 seen.0.linked within ∙ has in
        subst (Chain now at) (sym (cond-true (is_same_root at walk.at) (added pair keys) keys same ∙ cond-true (has_pair pair keys) keys (with_pair pair keys) there)) kept

    other : is_same_root at walk.at ≡ false → Chain now at (cond (is_same_root at walk.at) (added pair keys) keys)
    other differ = subst (Chain now at) (sym (cond-false (is_same_root at walk.at) (added pair keys) keys differ)) kept

-- a full leaf stays the operation's own
pub held_full : (walk : Walk) (page : ℕ) (node : NodeValue) (w : World) → Stands walk (stage.Held page) w → page_at w page ≡ Holds node → IsPacked node → Stands walk (stage.Full page) w
held_full walk page node w stands is full =
    let here = stands in
    let seen = held_seen walk page node w is here in
    let enough = full_enough node.key_len (length node.entries) node.leaf seen.0.role.node_is.short_key full in
    at_stage walk (stage.Held page) (stage.Full page) w here (here.place.0, (node, record { is = is; owned = here.place.2; linked = seen.0.linked; of = seen.0.of; leaf = seen.1; enough = enough; full = full }), here.place.3)

-- the pair is put
pub puts_pair : (walk : Walk) (page : ℕ) (node new : NodeValue) (pair : Pair) (w : World) → page_at w page ≡ Holds node → node.leaf ≡ true → length pair.key ≡ node.key_len → is_within node.low node.high pair ≡ true → has_pair pair (pairs_in node) ≡ false → IsNode new → new ≡ record node { entries = with_entry (record { pair = pair; child = 0 }) node.entries } → Stands walk (stage.Held page) w → PutsPair walk.op page new w
puts_pair walk page node new pair w is leaf key within absent sound made here = record { node = node; pair = pair; held = held_of walk page node w is here; leaf = leaf; key = key; absent = absent; within = within; sound = sound; made = made }

pub takes_pair : (walk : Walk) (page : ℕ) (node new : NodeValue) (pair : Pair) (w : World) → page_at w page ≡ Holds node → node.leaf ≡ true → has_pair pair (pairs_in node) ≡ true → is_within node.low node.high pair ≡ true → IsNode new → new ≡ record node { entries = filter (has_other_pair pair) node.entries } → Stands walk (stage.Held page) w → TakesPair walk.op page new w
takes_pair walk page node new pair w is leaf there within sound made here = record { node = node; pair = pair; held = held_of walk page node w is here; leaf = leaf; there = there; within = within; sound = sound; made = made }

pub tidy_edited : (op page : ℕ) (node new : NodeValue) (w : World) → IsHeld op page node w → IsTidy op w → IsTidy op (edited op page new w)
tidy_edited op page node new w held tidy q mine =
    let was : has_fresh op q w ≡ true = has_fresh_before op page new w op q mine in
    page_at-edited_other op page new w q (λ one. not_theirs_held op page node w held op (subst (λ p. has_fresh op p w ≡ true) one was)) ∙ tidy q was

pub edited_tidy : (walk : Walk) (page : ℕ) (node new : NodeValue) (w mid : World) → Stands walk (stage.Held page) w → page_at w page ≡ Holds node → mid ≡ edited walk.op page new w → IsTidy walk.op mid
edited_tidy walk page node new w mid stands is same =
    let here = stands in
    subst (IsTidy walk.op) (sym same) (tidy_edited walk.op page node new w (held_of walk page node w is here) here.place.0)

-- after an edit the leaf is given back
edit_stepped : (walk : Walk) (page : ℕ) (new : NodeValue) (w mid now : World) → Stands walk (stage.Held page) w → (Stands walk (stage.Held page) w → IsStep walk.op w (edited walk.op page new w)) → mid ≡ edited walk.op page new w → now ≡ freed page walk.op mid → Stepped walk stage.Ended w now
edit_stepped walk page new w mid now stands step same gives = subst (Stepped walk stage.Ended w) (sym (gives ∙ ap (freed page walk.op) same))
    (stepped_by walk (stage.Held page) stage.Ended w (freed page walk.op (edited walk.op page new w)) stands
    (λ here. let first = step here in IsStep-next walk.op w (edited walk.op page new w) (freed page walk.op (edited walk.op page new w)) first (free_step page walk.op (edited walk.op page new w) first.apart))
    (λ here. freed_none page walk.op (edited walk.op page new w) here.place.3))

pub put_stepped : (walk : Walk) (page : ℕ) (new : NodeValue) (w mid now : World) → Stands walk (stage.Held page) w → (Stands walk (stage.Held page) w → PutsPair walk.op page new w) → mid ≡ edited walk.op page new w → now ≡ freed page walk.op mid → Stepped walk stage.Ended w now
put_stepped walk page new w mid now stands puts = edit_stepped walk page new w mid now stands (λ here. IsStep-from_links walk.op w (edited walk.op page new w) (LeavesLinks-puts walk.op page new w here.apart (puts here)))

pub take_stepped : (walk : Walk) (page : ℕ) (new : NodeValue) (w mid now : World) → Stands walk (stage.Held page) w → (Stands walk (stage.Held page) w → TakesPair walk.op page new w) → mid ≡ edited walk.op page new w → now ≡ freed page walk.op mid → Stepped walk stage.Ended w now
take_stepped walk page new w mid now stands takes = edit_stepped walk page new w mid now stands (λ here. IsStep-from_links walk.op w (edited walk.op page new w) (LeavesLinks-takes walk.op page new w here.apart (takes here)))

freed_after : (walk : Walk) (page : ℕ) (new : NodeValue) (w mid now : World) → (IsApart (edited walk.op page new w)) → mid ≡ edited walk.op page new w → now ≡ freed page walk.op mid → (at : Root) (keys : List Pair) → Chain (edited walk.op page new w) at keys → Chain now at keys
freed_after walk page new w mid now apart same gives at keys chain =
    subst (λ v. Chain v at keys) (sym (gives ∙ ap (freed page walk.op) same)) (free_keys page walk.op (edited walk.op page new w) apart at keys chain)

pub put_keys : (walk : Walk) (page : ℕ) (node new : NodeValue) (pair : Pair) (w mid now : World) → Stands walk (stage.Held page) w → page_at w page ≡ Holds node → node.leaf ≡ true → length pair.key ≡ node.key_len → is_within node.low node.high pair ≡ true → has_pair pair (pairs_in node) ≡ false → IsNode new → new ≡ record node { entries = with_entry (record { pair = pair; child = 0 }) node.entries } → mid ≡ edited walk.op page new w → now ≡ freed page walk.op mid → ChangesKeys walk.at (added pair) w now
unfolding puts_pair
put_keys walk page node new pair w mid now stands is leaf key within absent sound made same gives at keys chain =
    let here = stands in
    let puts = puts_pair walk page node new pair w is leaf key within absent sound made here in
    let changed = ChangesKeys-puts walk.op page new walk.at here.tree here.leaves w here.apart here.is puts (held_seen walk page node w is here).0.of at keys chain in
    freed_after walk page new w mid now (LeavesLinks-puts walk.op page new w here.apart puts).apart same gives at (cond (is_same_root at walk.at) (added pair keys) keys) changed

pub take_keys : (walk : Walk) (page : ℕ) (node new : NodeValue) (pair : Pair) (w mid now : World) → Stands walk (stage.Held page) w → page_at w page ≡ Holds node → node.leaf ≡ true → has_pair pair (pairs_in node) ≡ true → is_within node.low node.high pair ≡ true → IsNode new → new ≡ record node { entries = filter (has_other_pair pair) node.entries } → mid ≡ edited walk.op page new w → now ≡ freed page walk.op mid → ChangesKeys walk.at (without pair) w now
unfolding takes_pair
take_keys walk page node new pair w mid now stands is leaf there within sound made same gives at keys chain =
    let here = stands in
    let takes = takes_pair walk page node new pair w is leaf there within sound made here in
    let changed = ChangesKeys-takes walk.op page new walk.at here.tree here.leaves w here.apart here.is takes (held_seen walk page node w is here).0.of at keys chain in
    freed_after walk page new w mid now (LeavesLinks-takes walk.op page new w here.apart takes).apart same gives at (cond (is_same_root at walk.at) (without pair keys) keys) changed

-- whether the pair is among the index's pairs is told by its leaf
pub has_keys : (walk : Walk) (page : ℕ) (node : NodeValue) (pair : Pair) (w : World) → Stands walk (stage.Held page) w → page_at w page ≡ Holds node → is_within node.low node.high pair ≡ true → (keys : List Pair) → Chain w walk.at keys → has_pair pair (pairs_in node) ≡ has_pair pair keys
has_keys walk page node pair w stands is within keys chain =
    let here = stands in
    let told : IsTree w walk.at here.tree chain.leaves = subst (λ t. IsTree w walk.at t chain.leaves) (one_tree w walk.at here.tree chain.tree here.leaves chain.leaves here.is chain.is) chain.is in
    let seen = held_seen walk page node w is here in
    sym (has_pair-joined w walk.at here.tree chain.leaves page node pair told seen.0.of is seen.1 seen.0.linked within) ∙ ap (has_pair pair) chain.keys_are

without_none : (pair : Pair) (keys : List Pair) → has_pair pair keys ≡ false → without pair keys ≡ keys
without_none pair [] none = refl
without_none pair (key ∷ keys) none =
    let parts = or_parts (is_eq (pair_cmp key pair)) (has_pair pair keys) none in
    let kept : without pair (key ∷ keys) ≡ key ∷ without pair keys = rw parts.0 refl in
    kept ∙ ap (λ rest. key ∷ rest) (without_none pair keys parts.1)

pub absent_keys : (walk : Walk) (page : ℕ) (node : NodeValue) (pair : Pair) (w now : World) → Stands walk (stage.Held page) w → page_at w page ≡ Holds node → is_within node.low node.high pair ≡ true → has_pair pair (pairs_in node) ≡ false → now ≡ freed page walk.op w → ChangesKeys walk.at (without pair) w now
absent_keys walk page node pair w now stands is within has gives at keys chain = ⊎_elim mine other (cases_Bool (is_same_root at walk.at))
  where
    kept : Chain now at keys
    kept = freed_keys walk (stage.Held page) page w w now stands refl gives at keys chain

    mine : is_same_root at walk.at ≡ true → Chain now at (cond (is_same_root at walk.at) (without pair keys) keys)
    mine same =
        let none : has_pair pair keys ≡ false = sym (has_keys walk page node pair w stands is within keys (subst (λ root. Chain w root keys) (same_root at walk.at same) chain)) ∙ has in
        subst (Chain now at) (sym (cond-true (is_same_root at walk.at) (without pair keys) keys same ∙ without_none pair keys none)) kept

    other : is_same_root at walk.at ≡ false → Chain now at (cond (is_same_root at walk.at) (without pair keys) keys)
    other differ = subst (Chain now at) (sym (cond-false (is_same_root at walk.at) (without pair keys) keys differ)) kept
