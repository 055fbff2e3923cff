-- The turns that split an inner node: both halves are the operation's own at the cut, and the one that the separator belongs to stays so.
use Rattle.std.proofs.Common.{◌≡◌, ℕ, ◌<◌, ◌≤◌, true, false, not, length, refl, sym, ap, ◌∙◌, arith, subst, inl, inr, ⊎_elim, Option, Some, None, find}
use Rattle.std.specs.Prelude.{◌⊎◌}
use Rattle.std.proofs.lemmas.Bool.{false≢true, and_parts, and_from, false_from_ne_true}
use Rattle.std.proofs.lemmas.List.{get_or_past, length-take-le, length-drop}
use Rattle.ct_latch.specs.Latches.{is_of, bars, with_hold}
use Rattle.ct_definitions.specs.Pairs.{Pair}
use Rattle.ct_node.specs.declared.target.Target.TheVariants.{At}
use Rattle.ct_node.specs.Nodes.{NodeValue, is_within, is_from, is_below, capacity_of}
use Rattle.ct_node.specs.Halves.{middle_of, upper_half, lower_half}
use Rattle.ct_node.specs.Roles.{first_of}
use Rattle.ct_node.specs.Worlds.{World, Blank, Holds, page_at, has_latch, has_own, has_fresh, is_fresh, is_own_of, IsBeside, IsOneAbove, with_fresh, with_holds, edited, IsHeld, WritesRight, CutsLeft, IsTidy}
use Rattle.ct_node.proofs.Orders.{below}
use Rattle.ct_tree_laws.specs.declared.walk.Walk.{Walk}
use Rattle.ct_tree_laws.specs.declared.walk.Stage.{Stage}
use Rattle.ct_tree_laws.specs.declared.walk.Stage.TheVariants as stage
use Rattle.ct_tree_laws.specs.declared.rise.Separator.{Separator}
use Rattle.ct_tree_laws.specs.declared.rise.Rise.TheVariants as rise
use Rattle.ct_tree_laws.specs.Trees.{Tree, IsInRole, IsLowFor, Chain}
use Rattle.ct_tree_laws.specs.Stands.{HasOnly, HasBoth, IsTidyBut, IsSeparator, IsAbove, IsCrowded, IsHalf, Stands, Stepped, KeepsKeys, KeepsLevels}
use Rattle.ct_tree_laws.proofs.Holders.{list_any_filtered, list_any-filter, list_any-with_hold_old, list_any-with_hold_more, list_any_gone}
use Rattle.ct_tree_laws.proofs.Taking.{owned, is_of_parts, is_of_from, is_own_parts, has_own-with_hold_new}
use Rattle.ct_tree_laws.proofs.Pages.{page_within, page_at-edited, page_at-edited_other, page_at-with_fresh, stays_linked, is_fresh_from, has_fresh_before, has_fresh-edited_mine, is_linked-edited, is_fresh-with_fresh, has_fresh-with_fresh, has_fresh_new}
use Rattle.ct_tree_laws.proofs.Levels.{beside_of, beside_kept, one_above_kept, beside_one_above, level_of_upper}
use Rattle.ct_tree_laws.proofs.Chains.{one_node}
use Rattle.ct_tree_laws.proofs.Steps.{IsStep, IsStep-next, IsStep-with_fresh, IsStep-from_links}
use Rattle.ct_tree_laws.proofs.Edits.{LeavesLinks-right, not_theirs_held}
use Rattle.ct_tree_laws.proofs.Cuts.{IsStep-cut, low-upper, high-lower}
use Rattle.ct_tree_laws.proofs.Keys.{KeepsKeys-with_fresh, KeepsKeys-right, KeepsKeys-cut}
use Rattle.ct_tree_laws.proofs.Walking.{onward_of, past_low}
use Rattle.ct_tree_laws.proofs.Turns.{}
use Rattle.ct_tree_laws.proofs.Capacities.{capacity_four}
use Rattle.ct_tree_laws.proofs.PutTurns.{stepped_by, freed, free_step, free_keys}
use Rattle.ct_tree_laws.proofs.PostingZeros.{IsMiddle}
use Rattle.ct_tree_laws.proofs.PostingTurns.{separator_after, owned_step}

-- the node that is to be split, as the operation has it
pub crowded_held : (walk : Walk) (from : Stage) (s : Separator) (page : ℕ) (node : NodeValue) (w : World) (here : Stands walk from w) → IsCrowded w here.tree walk.op s page node → IsHeld walk.op page node w
crowded_held walk from s page node w here (chosen, enough, full) =
    record { is = chosen.is; owned = chosen.owned; linked = chosen.linked; onward = onward_of w here.tree node here.apart (here.is.roles page node chosen.is chosen.of chosen.linked) }

crowded_role : (walk : Walk) (from : Stage) (s : Separator) (page : ℕ) (node : NodeValue) (w : World) (here : Stands walk from w) → IsCrowded w here.tree walk.op s page node → IsInRole w here.tree node
crowded_role walk from s page node w here (chosen, enough, full) = here.is.roles page node chosen.is chosen.of chosen.linked

crowded_seen : (walk : Walk) (from : Stage) (s : Separator) (page : ℕ) (known node : NodeValue) (w : World) (here : Stands walk from w) → IsCrowded w here.tree walk.op s page known → page_at w page ≡ Holds node → IsCrowded w here.tree walk.op s page node
crowded_seen walk from s page known node w here crowded is = subst (IsCrowded w here.tree walk.op s page) (sym (one_node w page known node crowded.0.is is)) crowded

-- it stays so where its page stays
crowded_kept : (w now : World) (t : Tree) (op : ℕ) (s : Separator) (page : ℕ) (node : NodeValue) → page_at now page ≡ page_at w page → has_own op page now ≡ true → is_fresh page now ≡ false → KeepsLevels w now → IsCrowded w t op s page node → IsCrowded now t op s page node
crowded_kept w now t op s page node same own linked levels (chosen, enough, full) = (record { is = same ∙ chosen.is; owned = own; linked = linked; of = chosen.of; inner = chosen.inner; within = chosen.within; level = one_above_kept w now page s.child levels chosen.level }, enough, full)

-- a page that is allocated is blank
pub tidy_allocated : (op : ℕ) (w : World) → IsTidy op w → IsTidy op (with_fresh op w)
tidy_allocated op w tidy q mine = page_at-with_fresh op w q ∙ ⊎_elim (λ one. ap (page_at w) one ∙ get_or_past w.pages (length w.pages) Blank (omega arith)) (λ old. tidy q old) (has_fresh_new op w q mine)

pub above_allocated : (walk : Walk) (s : Separator) (page right : ℕ) (w now : World) → Stands walk (stage.Post s (rise.Full page)) w → right ≡ length w.pages → now ≡ with_fresh walk.op w → Stepped walk (stage.Post s (rise.Fresh page right)) w now
above_allocated walk s page right w now stands new is = subst (Stepped walk (stage.Post s (rise.Fresh page right)) w) (sym is)
    (stepped_by walk (stage.Post s (rise.Full page)) (stage.Post s (rise.Fresh page right)) w (with_fresh walk.op w) stands (λ here. IsStep-with_fresh walk.op w here.apart)
    (λ here.
    let node = here.place.1.1.0 in
    let crowded = here.place.1.1.1 in (
      separator_after walk.op w (with_fresh walk.op w) here.tree s (IsStep-with_fresh walk.op w here.apart) here.place.0,
      (
        tidy_allocated walk.op w here.place.1.0,
        (node, crowded_kept w (with_fresh walk.op w) here.tree walk.op s page node (page_at-with_fresh walk.op w page) crowded.0.owned (is_fresh-with_fresh walk.op w page (page_within w page node crowded.0.is) ∙ crowded.0.linked) (IsStep-with_fresh walk.op w here.apart).levels crowded),
        subst (λ q. has_fresh walk.op q (with_fresh walk.op w) ≡ true) (sym new) (has_fresh-with_fresh walk.op w),
        here.place.1.2,
      ),
    )))

pub above_allocated_keys : (walk : Walk) (from : Stage) (w now : World) → Stands walk from w → now ≡ with_fresh walk.op w → KeepsKeys w now
above_allocated_keys walk from w now stands is = subst (KeepsKeys w) (sym is) (KeepsKeys-with_fresh walk.op w (stands.apart))

-- the new page becomes the operation's own too
has_own-with_hold_more : (page q op : ℕ) (w : World) → has_own op q w ≡ true → has_own op q (with_holds (with_hold (owned page op) w.holds) w) ≡ true
has_own-with_hold_more page q op w own = list_any-with_hold_more (is_own_of op q) (owned page op) w.holds
    (λ hold of is.
    let same = is_own_parts q op hold is in
    let at = is_of_parts page op hold of in
    and_own (sym at.0 ∙ same.0)) own
  where
    and_own : page ≡ q → is_own_of op q (owned page op) ≡ true
    and_own one = subst (λ p. is_own_of op p (owned page op) ≡ true) one (own_itself page op)
      where
        own_itself : (page op : ℕ) → is_own_of op page (owned page op) ≡ true
        own_itself page op = and_from (is_of page op (owned page op)) true (is_of_from page op (owned page op) refl refl) refl

both_owned : (page right op : ℕ) (w : World) → HasOnly op page w → HasBoth op page right (with_holds (with_hold (owned right op) w.holds) w)
both_owned page right op w only q latched = ⊎_elim
    (λ new. inr (sym (is_of_parts q op (owned right op) new).0))
    (λ old. inl (only q old))
    (list_any-with_hold_old (is_of q op) (owned right op) w.holds latched)

pub right_owned : (walk : Walk) (s : Separator) (page right : ℕ) (w now : World) → Stands walk (stage.Post s (rise.Fresh page right)) w → find (bars right walk.op true) w.holds ≡ None → now ≡ with_holds (with_hold (owned right walk.op) w.holds) w → Stepped walk (stage.Post s (rise.Split page right)) w now
right_owned walk s page right w now stands free is = subst (Stepped walk (stage.Post s (rise.Split page right)) w) (sym is)
    (stepped_by walk (stage.Post s (rise.Fresh page right)) (stage.Post s (rise.Split page right)) w (with_holds (with_hold (owned right walk.op) w.holds) w) stands (λ here. owned_step walk right w free here.apart)
    (λ here.
    let after = with_holds (with_hold (owned right walk.op) w.holds) w in
    let node = here.place.1.1.0 in
    let crowded = here.place.1.1.1 in (
      separator_after walk.op w after here.tree s (owned_step walk right w free here.apart) here.place.0,
      (
        here.place.1.0,
        (node, crowded_kept w after here.tree walk.op s page node refl (has_own-with_hold_more right page walk.op w crowded.0.owned) crowded.0.linked (owned_step walk right w free here.apart).levels crowded),
        here.place.1.2,
        has_own-with_hold_new right walk.op w,
        both_owned page right walk.op w here.place.1.3,
      ),
    )))

-- the right half is written
pub above_enough : (walk : Walk) (s : Separator) (page right : ℕ) (node : NodeValue) (w mid : World) → Stands walk (stage.Post s (rise.Split page right)) w → page_at w page ≡ Holds node → mid ≡ w → length node.entries < 2 → ⊥
above_enough walk s page right node w mid stands is same few = (
    let here = stands in
    let crowded = crowded_seen walk (stage.Post s (rise.Split page right)) s page here.place.1.1.0 node w here here.place.1.1.1 is in
    let enough = crowded.1 in
    absurd (omega arith))

pub writes_above : (walk : Walk) (s : Separator) (page right : ℕ) (node new : NodeValue) (w : World) → page_at w page ≡ Holds node → new ≡ upper_half node → Stands walk (stage.Post s (rise.Split page right)) w → WritesRight walk.op right new w
writes_above walk s page right node new w is made here =
    let crowded = crowded_seen walk (stage.Post s (rise.Split page right)) s page here.place.1.1.0 node w here here.place.1.1.1 is in
    record { from = page; node = node; held = crowded_held walk (stage.Post s (rise.Split page right)) s page node w here crowded; enough = crowded.1; blank = here.place.1.0 right here.place.1.2; mine = here.place.1.2; made = made }

pub above_written : (walk : Walk) (s : Separator) (page right : ℕ) (node new : NodeValue) (w now : World) → Stands walk (stage.Post s (rise.Split page right)) w → page_at w page ≡ Holds node → new ≡ upper_half node → now ≡ edited walk.op right new w → Stepped walk (stage.Post s (rise.Cut page right)) w now
above_written walk s page right node new w now stands is made same = subst (Stepped walk (stage.Post s (rise.Cut page right)) w) (sym same)
    (stepped_by walk (stage.Post s (rise.Split page right)) (stage.Post s (rise.Cut page right)) w (edited walk.op right new w) stands step
    (λ here. (separator_after walk.op w (edited walk.op right new w) here.tree s (step here) here.place.0, (tidy here, (node, crowded here, written here), mine here, here.place.1.3, here.place.1.4))))
  where
    step : Stands walk (stage.Post s (rise.Split page right)) w → IsStep walk.op w (edited walk.op right new w)
    step here = IsStep-from_links walk.op w (edited walk.op right new w) (LeavesLinks-right walk.op right new w here.apart (writes_above walk s page right node new w is made here))

    tidy : (here : Stands walk (stage.Post s (rise.Split page right)) w) → IsTidyBut walk.op right (edited walk.op right new w)
    tidy here q has apart = page_at-edited_other walk.op right new w q apart ∙ here.place.1.0 q (has_fresh_before walk.op right new w walk.op q has)

    known : (here : Stands walk (stage.Post s (rise.Split page right)) w) → IsCrowded w here.tree walk.op s page node
    known here = crowded_seen walk (stage.Post s (rise.Split page right)) s page here.place.1.1.0 node w here here.place.1.1.1 is

    crowded : (here : Stands walk (stage.Post s (rise.Split page right)) w) → IsCrowded (edited walk.op right new w) here.tree walk.op s page node
    crowded here =
        let old = crowded_seen walk (stage.Post s (rise.Split page right)) s page here.place.1.1.0 node w here here.place.1.1.1 is in
        let apart : page ≡ right → ⊥ = λ one. false≢true (sym old.0.linked ∙ subst (λ q. is_fresh q w ≡ true) (sym one) (is_fresh_from walk.op right w here.place.1.2)) in
        crowded_kept w (edited walk.op right new w) here.tree walk.op s page node (page_at-edited_other walk.op right new w page apart) old.0.owned (stays_linked walk.op right new w page old.0.linked) (step here).levels old

    written : (here : Stands walk (stage.Post s (rise.Split page right)) w) → page_at (edited walk.op right new w) right ≡ Holds (upper_half node)
    written here = page_at-edited walk.op right new w (here.apart.within right (is_fresh_from walk.op right w here.place.1.2)) ∙ ap Holds made

    mine : (here : Stands walk (stage.Post s (rise.Split page right)) w) → has_fresh walk.op right (edited walk.op right new w) ≡ true
    mine here =
        let old = crowded_seen walk (stage.Post s (rise.Split page right)) s page here.place.1.1.0 node w here here.place.1.1.1 is in
        let held = crowded_held walk (stage.Post s (rise.Split page right)) s page node w here old in
        let apart : right ≡ new.right → ⊥ = λ one. false≢true (sym held.onward ∙ subst (λ q. is_fresh q w ≡ true) (one ∙ ap (λ (v : NodeValue). v.right) made) (is_fresh_from walk.op right w here.place.1.2)) in
        has_fresh-edited_mine walk.op right new w walk.op right apart ∙ here.place.1.2

pub above_written_keys : (walk : Walk) (s : Separator) (page right : ℕ) (node new : NodeValue) (w now : World) → Stands walk (stage.Post s (rise.Split page right)) w → page_at w page ≡ Holds node → new ≡ upper_half node → now ≡ edited walk.op right new w → KeepsKeys w now
above_written_keys walk s page right node new w now stands is made same = subst (KeepsKeys w) (sym same)
    (KeepsKeys-right walk.op right new w (stands.apart) (writes_above walk s page right node new w is made stands))

-- the left node is cut
pub cut_above_enough : (walk : Walk) (s : Separator) (page right : ℕ) (node : NodeValue) (w mid : World) → Stands walk (stage.Post s (rise.Cut page right)) w → page_at w page ≡ Holds node → mid ≡ w → length node.entries < 2 → ⊥
cut_above_enough walk s page right node w mid stands is same few = (
    let here = stands in
    let crowded = crowded_seen walk (stage.Post s (rise.Cut page right)) s page here.place.1.1.0 node w here here.place.1.1.1 is in
    let enough = crowded.1 in
    absurd (omega arith))

module _ (walk : Walk) (s : Separator) (page right : ℕ) (node : NodeValue) (w : World) (is : page_at w page ≡ Holds node) (here : Stands walk (stage.Post s (rise.Cut page right)) w) where
  cut : World
  cut = edited walk.op page (lower_half right node) w

  crowded : IsCrowded w here.tree walk.op s page node
  crowded = crowded_seen walk (stage.Post s (rise.Cut page right)) s page here.place.1.1.0 node w here here.place.1.1.1 is

  upper : page_at w right ≡ Holds (upper_half node)
  upper = here.place.1.1.2 ∙ ap (λ v. Holds (upper_half v)) (one_node w page node here.place.1.1.0 is here.place.1.1.1.0.is)

  held : IsHeld walk.op page node w
  held = crowded_held walk (stage.Post s (rise.Cut page right)) s page node w here crowded

  role : IsInRole w here.tree node
  role = crowded_role walk (stage.Post s (rise.Cut page right)) s page node w here crowded

  pub cuts_above : (new : NodeValue) → new ≡ lower_half right node → CutsLeft walk.op page new w
  cuts_above new made = record { node = node; right = right; held = held; enough = crowded.1; sound = role.node_is; mine = here.place.1.2; upper = upper; made = made }

  pub cut_above_step : IsStep walk.op w (edited walk.op page (lower_half right node) w)
  cut_above_step = IsStep-cut walk.op page right node w here.apart held crowded.1 here.place.1.2 upper role.node_is

  -- both halves are on the node's level, one above the separator's page
  halves_beside : IsBeside w page right
  halves_beside =
      let level = here.is.levels page node is crowded.0.of crowded.0.linked in
      beside_of w level.0 page right level.1 (level_of_upper w level.0 page right node crowded.1 is upper level.1 level.2)

  right_above : IsOneAbove w right s.child
  right_above = beside_one_above w page right s.child halves_beside crowded.0.level

  not_right : right ≡ page → ⊥
  not_right one = false≢true (sym held.linked ∙ subst (λ p. is_fresh p w ≡ true) one (is_fresh_from walk.op right w here.place.1.2))

  right_linked : is_fresh right (edited walk.op page (lower_half right node) w) ≡ false
  right_linked = is_linked-edited walk.op page (lower_half right node) w here.apart here.place.1.2

  pub cut_above_tidy : IsTidy walk.op (edited walk.op page (lower_half right node) w)
  cut_above_tidy q mine =
      let was : has_fresh walk.op q w ≡ true = has_fresh_before walk.op page (lower_half right node) w walk.op q mine in
      let apart : q ≡ right → ⊥ = λ one. false≢true (sym right_linked ∙ subst (λ p. is_fresh p (edited walk.op page (lower_half right node) w) ≡ true) one (is_fresh_from walk.op q (edited walk.op page (lower_half right node) w) mine)) in
      let other : q ≡ page → ⊥ = λ one. not_theirs_held walk.op page node w held walk.op (subst (λ p. has_fresh walk.op p w ≡ true) one was) in
      page_at-edited_other walk.op page (lower_half right node) w q other ∙ here.place.1.0 q was apart

  left_there : page_at (edited walk.op page (lower_half right node) w) page ≡ Holds (lower_half right node)
  left_there = page_at-edited walk.op page (lower_half right node) w (page_within w page node is)

  right_there : page_at (edited walk.op page (lower_half right node) w) right ≡ Holds (upper_half node)
  right_there = page_at-edited_other walk.op page (lower_half right node) w right not_right ∙ upper

  within : (is_from node.low s.low ≡ true) × (is_below node.high s.low ≡ true)
  within = and_parts (is_from node.low s.low) (is_below node.high s.low) crowded.0.within

  -- the separator of this split
  pub next_separator : (low : Pair) → IsMiddle node low → IsSeparator (edited walk.op page (lower_half right node) w) here.tree (record { low = low; child = right; left = page })
  next_separator low middle = (
    node.leaf,
    record { node = upper_half node; is = right_there; of = record { file = crowded.0.of.file; index = crowded.0.of.index }; key_len = role.key_len; kind = refl; from = low-upper node crowded.1 ∙ ap Some middle.is; linked = right_linked },
    middle.key ∙ role.key_len,
    subst (λ n. below (first_of n None) low ≡ true) role.key_len middle.up,
    beside_kept w (edited walk.op page (lower_half right node) w) page right cut_above_step.levels halves_beside,
  )

  low_for : (bound : Option Pair) → is_from bound s.low ≡ true → IsLowFor (At s.low) bound
  low_for None from = tt
  low_for (Some low) from = past_low (At s.low) low from

  pub left_half : (low : Pair) → IsMiddle node low → is_within (lower_half right node).low (lower_half right node).high s.low ≡ true → (now : World) → IsStep walk.op (edited walk.op page (lower_half right node) w) now → page_at now page ≡ Holds (lower_half right node) → has_own walk.op page now ≡ true → is_fresh page now ≡ false → IsAbove now here.tree s s.child page × IsHalf now here.tree walk.op s page (Some (record { low = low; child = right; left = page }))
  left_half low middle inside now step there own linked =
      let enough = crowded.1 in
      let room = role.node_is.room in
      let four = capacity_four node.key_len false role.node_is.short_key in
      let fits : length node.entries ≤ capacity_of node.key_len false = subst (λ kind. length node.entries ≤ capacity_of node.key_len kind) crowded.0.inner room in
      let long = length-take-le (middle_of node) node.entries (omega arith) in
      let level = one_above_kept w now page s.child (λ n q at. step.levels n q (cut_above_step.levels n q at)) crowded.0.level in (
        (node.low, record { node = lower_half right node; is = there; of = record { file = crowded.0.of.file; index = crowded.0.of.index }; key_len = role.key_len; kind = crowded.0.inner; from = refl; linked = linked }, low_for node.low within.0, level),
        (
          separator_after walk.op (edited walk.op page (lower_half right node) w) now here.tree (record { low = low; child = right; left = page }) step (next_separator low middle),
          (lower_half right node, record { is = there; owned = own; linked = linked; of = record { file = crowded.0.of.file; index = crowded.0.of.index }; inner = crowded.0.inner; within = inside; level = level }, omega arith),
        ),
      )

  pub right_half : (low : Pair) → IsMiddle node low → is_within (lower_half right node).low (lower_half right node).high s.low ≡ false → (now : World) → IsStep walk.op (edited walk.op page (lower_half right node) w) now → page_at now right ≡ Holds (upper_half node) → has_own walk.op right now ≡ true → is_fresh right now ≡ false → IsAbove now here.tree s s.child right × IsHalf now here.tree walk.op s right (Some (record { low = low; child = right; left = page }))
  right_half low middle outside now step there own linked =
      let enough = crowded.1 in
      let room = role.node_is.room in
      let four = capacity_four node.key_len false role.node_is.short_key in
      let fits : length node.entries ≤ capacity_of node.key_len false = subst (λ kind. length node.entries ≤ capacity_of node.key_len kind) crowded.0.inner room in
      let long = length-drop (middle_of node) node.entries in
      let bound : (lower_half right node).high ≡ Some low = high-lower right node crowded.1 ∙ ap Some middle.is in
      let not_below : below s.low low ≡ false = false_from_ne_true (below s.low low) (λ lower. false≢true (sym outside ∙ and_from (is_from node.low s.low) (is_below (lower_half right node).high s.low) within.0 (subst (λ high. is_below high s.low ≡ true) (sym bound) lower))) in
      let from : is_from (Some low) s.low ≡ true = ap not not_below in
      let start : (upper_half node).low ≡ Some low = low-upper node crowded.1 ∙ ap Some middle.is in
      let level = one_above_kept w now right s.child (λ n q at. step.levels n q (cut_above_step.levels n q at)) right_above in (
        (Some low, record { node = upper_half node; is = there; of = record { file = crowded.0.of.file; index = crowded.0.of.index }; key_len = role.key_len; kind = crowded.0.inner; from = start; linked = linked }, low_for (Some low) from, level),
        (
          separator_after walk.op (edited walk.op page (lower_half right node) w) now here.tree (record { low = low; child = right; left = page }) step (next_separator low middle),
          (upper_half node, record { is = there; owned = own; linked = linked; of = record { file = crowded.0.of.file; index = crowded.0.of.index }; inner = crowded.0.inner; within = and_from (is_from (upper_half node).low s.low) (is_below node.high s.low) (subst (λ b. is_from b s.low ≡ true) (sym start) from) within.1; level = level }, omega arith),
        ),
      )

-- what is given back is the other page
own_after_free : (page q op : ℕ) (w : World) → (q ≡ page → ⊥) → has_own op q (freed page op w) ≡ has_own op q w
own_after_free page q op w differ = list_any-filter (is_own_of op q) (λ hold. not (is_of page op hold)) w.holds
    (λ hold own. ap not (false_from_ne_true (is_of page op hold) (λ of. differ (sym (is_own_parts q op hold own).0 ∙ (is_of_parts page op hold of).0))))

only_after_free : (page q op : ℕ) (w : World) → ((other : ℕ) → has_latch op other w ≡ true → (other ≡ page) ⊎ (other ≡ q)) → HasOnly op q (freed page op w)
only_after_free page q op w both other latched = ⊎_elim
    (λ gone. absurd (false≢true (sym (list_any_gone (is_of page op) (λ hold. not (is_of page op hold)) w.holds (λ hold of. ap not of)) ∙ subst (λ p. has_latch op p (freed page op w) ≡ true) gone latched)))
    (λ stays. stays)
    (both other (list_any_filtered (is_of other op) (λ hold. not (is_of page op hold)) w.holds latched))

cut_free_step : (walk : Walk) (s : Separator) (page right gone : ℕ) (node : NodeValue) (w : World) (is : page_at w page ≡ Holds node) → Stands walk (stage.Post s (rise.Cut page right)) w → IsStep walk.op w (freed gone walk.op (edited walk.op page (lower_half right node) w))
cut_free_step walk s page right gone node w is here =
    let first = cut_above_step walk s page right node w is here in
    IsStep-next walk.op w (edited walk.op page (lower_half right node) w) (freed gone walk.op (edited walk.op page (lower_half right node) w)) first (free_step gone walk.op (edited walk.op page (lower_half right node) w) first.apart)

-- the half that is kept, by what is given back
pub cut_above_left : (walk : Walk) (s : Separator) (page right : ℕ) (node new : NodeValue) (low : Pair) (w mid now : World) → Stands walk (stage.Post s (rise.Cut page right)) w → page_at w page ≡ Holds node → IsMiddle node low → new ≡ lower_half right node → is_within new.low new.high s.low ≡ true → mid ≡ edited walk.op page new w → now ≡ freed right walk.op mid → Stepped walk (stage.Post s (rise.Held page (Some (record { low = low; child = right; left = page })))) w now
cut_above_left walk s page right node new low w mid now stands is middle made inside same gives =
    let to = stage.Post s (rise.Held page (Some (record { low = low; child = right; left = page }))) in
    let after = edited walk.op page (lower_half right node) w in
    let all : now ≡ freed right walk.op after = gives ∙ ap (freed right walk.op) (same ∙ ap (λ v. edited walk.op page v w) made) in
    let within : is_within (lower_half right node).low (lower_half right node).high s.low ≡ true = subst (λ (v : NodeValue). is_within v.low v.high s.low ≡ true) made inside in
    subst (Stepped walk to w) (sym all)
    (stepped_by walk (stage.Post s (rise.Cut page right)) to w (freed right walk.op after) stands (cut_free_step walk s page right right node w is)
    (λ here.
    let own : has_own walk.op page (freed right walk.op after) ≡ true = own_after_free right page walk.op after (λ one. not_right walk s page right node w is here (sym one)) ∙ (crowded walk s page right node w is here).0.owned in
    let linked : is_fresh page (freed right walk.op after) ≡ false = stays_linked walk.op page (lower_half right node) w page (crowded walk s page right node w is here).0.linked in
    let half = left_half walk s page right node w is here low middle within (freed right walk.op after) (free_step right walk.op after (cut_above_step walk s page right node w is here).apart) (left_there walk s page right node w is here) own linked in (
      separator_after walk.op w (freed right walk.op after) here.tree s (cut_free_step walk s page right right node w is here) here.place.0,
      (cut_above_tidy walk s page right node w is here, half.0, own, only_after_free right page walk.op after (λ other latched. ⊎_elim (λ one. inr one) (λ two. inl two) (here.place.1.4 other latched)), half.1),
    )))

pub cut_above_right : (walk : Walk) (s : Separator) (page right : ℕ) (node new : NodeValue) (low : Pair) (w mid now : World) → Stands walk (stage.Post s (rise.Cut page right)) w → page_at w page ≡ Holds node → IsMiddle node low → new ≡ lower_half right node → is_within new.low new.high s.low ≡ false → mid ≡ edited walk.op page new w → now ≡ freed page walk.op mid → Stepped walk (stage.Post s (rise.Held right (Some (record { low = low; child = right; left = page })))) w now
cut_above_right walk s page right node new low w mid now stands is middle made outside same gives =
    let to = stage.Post s (rise.Held right (Some (record { low = low; child = right; left = page }))) in
    let after = edited walk.op page (lower_half right node) w in
    let all : now ≡ freed page walk.op after = gives ∙ ap (freed page walk.op) (same ∙ ap (λ v. edited walk.op page v w) made) in
    let without : is_within (lower_half right node).low (lower_half right node).high s.low ≡ false = subst (λ (v : NodeValue). is_within v.low v.high s.low ≡ false) made outside in
    subst (Stepped walk to w) (sym all)
    (stepped_by walk (stage.Post s (rise.Cut page right)) to w (freed page walk.op after) stands (cut_free_step walk s page right page node w is)
    (λ here.
    let own : has_own walk.op right (freed page walk.op after) ≡ true = own_after_free page right walk.op after (not_right walk s page right node w is here) ∙ here.place.1.3 in
    let half = right_half walk s page right node w is here low middle without (freed page walk.op after) (free_step page walk.op after (cut_above_step walk s page right node w is here).apart) (right_there walk s page right node w is here) own (right_linked walk s page right node w is here) in (
      separator_after walk.op w (freed page walk.op after) here.tree s (cut_free_step walk s page right page node w is here) here.place.0,
      (cut_above_tidy walk s page right node w is here, half.0, own, only_after_free page right walk.op after here.place.1.4, half.1),
    )))

pub cut_above_is_tidy : (walk : Walk) (s : Separator) (page right : ℕ) (node new : NodeValue) (w mid : World) → Stands walk (stage.Post s (rise.Cut page right)) w → page_at w page ≡ Holds node → new ≡ lower_half right node → mid ≡ edited walk.op page new w → IsTidy walk.op mid
cut_above_is_tidy walk s page right node new w mid stands is made same =
    let all : mid ≡ edited walk.op page (lower_half right node) w = same ∙ ap (λ v. edited walk.op page v w) made in
    subst (IsTidy walk.op) (sym all) (cut_above_tidy walk s page right node w is stands)

pub cut_above_keys : (walk : Walk) (s : Separator) (page right gone : ℕ) (node new : NodeValue) (w mid now : World) → Stands walk (stage.Post s (rise.Cut page right)) w → page_at w page ≡ Holds node → new ≡ lower_half right node → mid ≡ edited walk.op page new w → now ≡ freed gone walk.op mid → KeepsKeys w now
cut_above_keys walk s page right gone node new w mid now stands is made same gives at keys chain =
    let after = edited walk.op page (lower_half right node) w in
    let all : now ≡ freed gone walk.op after = gives ∙ ap (freed gone walk.op) (same ∙ ap (λ v. edited walk.op page v w) made) in
    let first = KeepsKeys-cut walk.op page right node w (
    let here = stands in
    (here.apart, held walk s page right node w is here, (crowded walk s page right node w is here).1, here.place.1.2, upper walk s page right node w is here)) at keys chain in
    subst (λ v. Chain v at keys) (sym all) (free_keys gone walk.op after (cut_above_step walk s page right node w is stands).apart at keys first)
