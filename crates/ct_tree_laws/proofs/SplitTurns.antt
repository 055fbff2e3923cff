-- The turns of a split: a page is allocated, the right half written, and the left node cut.
use Rattle.std.proofs.Common.{◌≡◌, ℕ, ◌<◌, true, false, length, refl, sym, ap, ◌∙◌, arith, subst, ⊎_elim, Some, None}
use Rattle.std.proofs.lemmas.Bool.{false≢true}
use Rattle.std.proofs.lemmas.List.{get_or_past}
use Rattle.ct_definitions.specs.Pairs.{Pair}
use Rattle.ct_node.specs.Nodes.{NodeValue, IsNode}
use Rattle.ct_node.specs.Roles.{first_of}
use Rattle.ct_node.proofs.Orders.{below}
use Rattle.ct_node.specs.Halves.{upper_half, lower_half}
use Rattle.ct_node.specs.Worlds.{World, Blank, Holds, page_at, has_fresh, is_fresh, with_fresh, edited, IsHeld, WritesRight, CutsLeft, IsTidy}
use Rattle.ct_tree_laws.specs.declared.walk.Walk.{Walk}
use Rattle.ct_tree_laws.specs.declared.walk.Stage.{Stage}
use Rattle.ct_tree_laws.specs.declared.walk.Stage.TheVariants as stage
use Rattle.ct_tree_laws.specs.declared.rise.Separator.{Separator}
use Rattle.ct_tree_laws.specs.declared.rise.Rise.TheVariants as rise
use Rattle.ct_tree_laws.specs.Trees.{Chain}
use Rattle.ct_tree_laws.specs.Stands.{IsFull, IsTidyBut, IsSeparator, Stands, Stepped, KeepsKeys}
use Rattle.ct_tree_laws.proofs.Pages.{page_within, page_at-edited, page_at-edited_other, page_at-with_fresh, stays_linked, is_fresh_from, has_fresh_before, has_fresh-edited_mine, is_linked-edited, is_fresh-with_fresh, has_fresh-with_fresh, has_fresh_new}
use Rattle.ct_tree_laws.proofs.Levels.{leaf_level, beside_of, beside_kept}
use Rattle.ct_tree_laws.proofs.Chains.{one_node}
use Rattle.ct_tree_laws.proofs.Steps.{IsStep, IsStep-next, IsStep-with_fresh, IsStep-from_links}
use Rattle.ct_tree_laws.proofs.Edits.{LeavesLinks-right, not_theirs_held}
use Rattle.ct_tree_laws.proofs.Cuts.{IsStep-cut, low-upper}
use Rattle.ct_tree_laws.proofs.Keys.{KeepsKeys-with_fresh, KeepsKeys-right, KeepsKeys-cut}
use Rattle.ct_tree_laws.proofs.Walking.{onward_of}
use Rattle.ct_tree_laws.proofs.PostingZeros.{IsMiddle}
use Rattle.ct_tree_laws.proofs.Turns.{}
use Rattle.ct_tree_laws.proofs.PutTurns.{stepped_by, freed, freed_none, free_step, free_keys}

-- a page is allocated
pub allocate_stepped : (walk : Walk) (page right : ℕ) (w now : World) → Stands walk (stage.Full page) w → right ≡ length w.pages → now ≡ with_fresh walk.op w → Stepped walk (stage.Split page right) w now
allocate_stepped walk page right w now stands new is = subst (Stepped walk (stage.Split page right) w) (sym is)
    (stepped_by walk (stage.Full page) (stage.Split page right) w (with_fresh walk.op w) stands (λ here. IsStep-with_fresh walk.op w here.apart)
    (λ here. (tidy here, (here.place.1.0, full here), subst (λ q. has_fresh walk.op q (with_fresh walk.op w) ≡ true) (sym new) (has_fresh-with_fresh walk.op w), here.place.2)))
  where
    tidy : (here : Stands walk (stage.Full page) w) → IsTidy walk.op (with_fresh walk.op w)
    tidy here q mine = page_at-with_fresh walk.op w q ∙ ⊎_elim (λ one. ap (page_at w) one ∙ past) (λ old. here.place.0 q old) (has_fresh_new walk.op w q mine)
      where
        past : page_at w (length w.pages) ≡ Blank
        past = get_or_past w.pages (length w.pages) Blank (omega arith)

    full : (here : Stands walk (stage.Full page) w) → IsFull (with_fresh walk.op w) here.tree walk.op walk.target page here.place.1.0
    full here =
        let is = here.place.1.1 in
        record { is = page_at-with_fresh walk.op w page ∙ is.is; owned = is.owned; linked = is_fresh-with_fresh walk.op w page (page_within w page here.place.1.0 is.is) ∙ is.linked; of = is.of; leaf = is.leaf; enough = is.enough; full = is.full }

pub allocate_keys : (walk : Walk) (page : ℕ) (w now : World) → Stands walk (stage.Full page) w → now ≡ with_fresh walk.op w → KeepsKeys w now
allocate_keys walk page w now stands is = subst (KeepsKeys w) (sym is) (KeepsKeys-with_fresh walk.op w (stands.apart))

-- a full leaf that the operation has
full_held : (walk : Walk) (from : Stage) (page : ℕ) (node : NodeValue) (w : World) (here : Stands walk from w) → IsFull w here.tree walk.op walk.target page node → IsHeld walk.op page node w
full_held walk from page node w here full =
    record { is = full.is; owned = full.owned; linked = full.linked; onward = onward_of w here.tree node here.apart (here.is.roles page node full.is full.of full.linked) }

full_sound : (walk : Walk) (from : Stage) (page : ℕ) (node : NodeValue) (w : World) (here : Stands walk from w) → IsFull w here.tree walk.op walk.target page node → IsNode node
full_sound walk from page node w here full = (here.is.roles page node full.is full.of full.linked).node_is

-- the full leaf is what the operation sees
full_seen : (walk : Walk) (from : Stage) (page : ℕ) (known node : NodeValue) (w : World) (here : Stands walk from w) → IsFull w here.tree walk.op walk.target page known → page_at w page ≡ Holds node → IsFull w here.tree walk.op walk.target page node
full_seen walk from page known node w here full is = subst (IsFull w here.tree walk.op walk.target page) (sym (one_node w page known node full.is is)) full

pub split_enough : (walk : Walk) (page right : ℕ) (node : NodeValue) (w mid : World) → Stands walk (stage.Split page right) w → page_at w page ≡ Holds node → mid ≡ w → length node.entries < 2 → ⊥
split_enough walk page right node w mid stands is same few = (
    let here = stands in
    let full = full_seen walk (stage.Split page right) page here.place.1.0 node w here here.place.1.1 is in
    let enough = full.enough in
    absurd (omega arith))

-- the right half is written
pub writes_right : (walk : Walk) (page right : ℕ) (node new : NodeValue) (w : World) → page_at w page ≡ Holds node → new ≡ upper_half node → Stands walk (stage.Split page right) w → WritesRight walk.op right new w
writes_right walk page right node new w is made here =
    let full = full_seen walk (stage.Split page right) page here.place.1.0 node w here here.place.1.1 is in
    record { from = page; node = node; held = full_held walk (stage.Split page right) page node w here full; enough = full.enough; blank = here.place.0 right here.place.2; mine = here.place.2; made = made }

pub write_stepped : (walk : Walk) (page right : ℕ) (node new : NodeValue) (w now : World) → Stands walk (stage.Split page right) w → page_at w page ≡ Holds node → new ≡ upper_half node → now ≡ edited walk.op right new w → Stepped walk (stage.Cut page right) w now
write_stepped walk page right node new w now stands is made same = subst (Stepped walk (stage.Cut page right) w) (sym same)
    (stepped_by walk (stage.Split page right) (stage.Cut page right) w (edited walk.op right new w) stands
    (λ here. IsStep-from_links walk.op w (edited walk.op right new w) (LeavesLinks-right walk.op right new w here.apart (writes_right walk page right node new w is made here)))
    (λ here. (tidy here, (node, full here, written here), mine here, here.place.3)))
  where
    tidy : (here : Stands walk (stage.Split page right) w) → IsTidyBut walk.op right (edited walk.op right new w)
    tidy here q has apart = page_at-edited_other walk.op right new w q apart ∙ here.place.0 q (has_fresh_before walk.op right new w walk.op q has)

    known : (here : Stands walk (stage.Split page right) w) → IsFull w here.tree walk.op walk.target page node
    known here = full_seen walk (stage.Split page right) page here.place.1.0 node w here here.place.1.1 is

    full : (here : Stands walk (stage.Split page right) w) → IsFull (edited walk.op right new w) here.tree walk.op walk.target page node
    full here =
        let old = full_seen walk (stage.Split page right) page here.place.1.0 node w here here.place.1.1 is in
        let apart : page ≡ right → ⊥ = λ one. false≢true (sym old.linked ∙ subst (λ q. is_fresh q w ≡ true) (sym one) (is_fresh_from walk.op right w here.place.2)) in
        record { is = page_at-edited_other walk.op right new w page apart ∙ old.is; owned = old.owned; linked = stays_linked walk.op right new w page old.linked; of = old.of; leaf = old.leaf; enough = old.enough; full = old.full }

    written : (here : Stands walk (stage.Split page right) w) → page_at (edited walk.op right new w) right ≡ Holds (upper_half node)
    written here = page_at-edited walk.op right new w (here.apart.within right (is_fresh_from walk.op right w here.place.2)) ∙ ap Holds made

    mine : (here : Stands walk (stage.Split page right) w) → has_fresh walk.op right (edited walk.op right new w) ≡ true
    mine here =
        let old = full_seen walk (stage.Split page right) page here.place.1.0 node w here here.place.1.1 is in
        let held = full_held walk (stage.Split page right) page node w here old in
        let apart : right ≡ new.right → ⊥ = λ one. false≢true (sym held.onward ∙ subst (λ q. is_fresh q w ≡ true) (one ∙ ap (λ (v : NodeValue). v.right) made) (is_fresh_from walk.op right w here.place.2)) in
        has_fresh-edited_mine walk.op right new w walk.op right apart ∙ here.place.2

pub write_keys : (walk : Walk) (page right : ℕ) (node new : NodeValue) (w now : World) → Stands walk (stage.Split page right) w → page_at w page ≡ Holds node → new ≡ upper_half node → now ≡ edited walk.op right new w → KeepsKeys w now
write_keys walk page right node new w now stands is made same = subst (KeepsKeys w) (sym same)
    (KeepsKeys-right walk.op right new w (stands.apart) (writes_right walk page right node new w is made stands))

pub cut_enough : (walk : Walk) (page right : ℕ) (node : NodeValue) (w mid : World) → Stands walk (stage.Cut page right) w → page_at w page ≡ Holds node → mid ≡ w → length node.entries < 2 → ⊥
cut_enough walk page right node w mid stands is same few = (
    let here = stands in
    let full = full_seen walk (stage.Cut page right) page here.place.1.0 node w here here.place.1.1 is in
    let enough = full.enough in
    absurd (omega arith))

-- all that the cut needs
cut_facts : (walk : Walk) (page right : ℕ) (node : NodeValue) (w : World) → page_at w page ≡ Holds node → (here : Stands walk (stage.Cut page right) w) → IsFull w here.tree walk.op walk.target page node × (page_at w right ≡ Holds (upper_half node))
cut_facts walk page right node w is here =
    let same : node ≡ here.place.1.0 = one_node w page here.place.1.0 node here.place.1.1.is is in
    (full_seen walk (stage.Cut page right) page here.place.1.0 node w here here.place.1.1 is, here.place.1.2 ∙ ap (λ v. Holds (upper_half v)) (sym same))

-- the left node is cut
pub cuts_left : (walk : Walk) (page right : ℕ) (node new : NodeValue) (w : World) → page_at w page ≡ Holds node → new ≡ lower_half right node → Stands walk (stage.Cut page right) w → CutsLeft walk.op page new w
cuts_left walk page right node new w is made here =
    let facts = cut_facts walk page right node w is here in
    record { node = node; right = right; held = full_held walk (stage.Cut page right) page node w here facts.0; enough = facts.0.enough; sound = full_sound walk (stage.Cut page right) page node w here facts.0; mine = here.place.2; upper = facts.1; made = made }

cut_step : (walk : Walk) (page right : ℕ) (node : NodeValue) (w : World) → page_at w page ≡ Holds node → Stands walk (stage.Cut page right) w → IsStep walk.op w (edited walk.op page (lower_half right node) w)
cut_step walk page right node w is here =
    let facts = cut_facts walk page right node w is here in
    IsStep-cut walk.op page right node w here.apart (full_held walk (stage.Cut page right) page node w here facts.0) facts.0.enough here.place.2 facts.1 (full_sound walk (stage.Cut page right) page node w here facts.0)

cut_tidy : (walk : Walk) (page right : ℕ) (node : NodeValue) (w : World) → page_at w page ≡ Holds node → Stands walk (stage.Cut page right) w → IsTidy walk.op (edited walk.op page (lower_half right node) w)
cut_tidy walk page right node w is here q mine =
    let facts = cut_facts walk page right node w is here in
    let held = full_held walk (stage.Cut page right) page node w here facts.0 in
    let was : has_fresh walk.op q w ≡ true = has_fresh_before walk.op page (lower_half right node) w walk.op q mine in
    let apart : q ≡ right → ⊥ = λ one. false≢true (sym (is_linked-edited walk.op page (lower_half right node) w here.apart here.place.2) ∙ subst (λ p. is_fresh p (edited walk.op page (lower_half right node) w) ≡ true) one (is_fresh_from walk.op q (edited walk.op page (lower_half right node) w) mine)) in
    let other : q ≡ page → ⊥ = λ one. not_theirs_held walk.op page node w held walk.op (subst (λ p. has_fresh walk.op p w ≡ true) one was) in
    page_at-edited_other walk.op page (lower_half right node) w q other ∙ here.place.0 q was apart

pub cut_is_tidy : (walk : Walk) (page right : ℕ) (node new : NodeValue) (w mid : World) → Stands walk (stage.Cut page right) w → page_at w page ≡ Holds node → new ≡ lower_half right node → mid ≡ edited walk.op page new w → IsTidy walk.op mid
cut_is_tidy walk page right node new w mid stands is made same =
    let all : mid ≡ edited walk.op page (lower_half right node) w = same ∙ ap (λ v. edited walk.op page v w) made in
    subst (IsTidy walk.op) (sym all) (cut_tidy walk page right node w is stands)

-- the separator of a split
cut_separator : (walk : Walk) (page right : ℕ) (node : NodeValue) (low : Pair) (w : World) → page_at w page ≡ Holds node → IsMiddle node low → (here : Stands walk (stage.Cut page right) w) → IsSeparator (edited walk.op page (lower_half right node) w) here.tree (record { low = low; child = right; left = page })
cut_separator walk page right node low w is middle here =
    let facts = cut_facts walk page right node w is here in
    let role = here.is.roles page node facts.0.is facts.0.of facts.0.linked in
    let not_page : right ≡ page → ⊥ = λ one. false≢true (sym facts.0.linked ∙ subst (λ p. is_fresh p w ≡ true) one (is_fresh_from walk.op right w here.place.2)) in (
      node.leaf,
      record { node = upper_half node; is = page_at-edited_other walk.op page (lower_half right node) w right not_page ∙ facts.1; of = record { file = facts.0.of.file; index = facts.0.of.index }; key_len = role.key_len; kind = refl; from = low-upper node facts.0.enough ∙ ap Some middle.is; linked = is_linked-edited walk.op page (lower_half right node) w here.apart here.place.2 },
      middle.key ∙ role.key_len,
      subst (λ n. below (first_of n None) low ≡ true) role.key_len middle.up,
      beside_kept w (edited walk.op page (lower_half right node) w) page right (cut_step walk page right node w is here).levels (beside_of w 0 page right (leaf_level w page node facts.0.is facts.0.leaf) (leaf_level w right (upper_half node) facts.1 facts.0.leaf)),
    )

pub cut_stepped : (walk : Walk) (page right : ℕ) (node new : NodeValue) (low : Pair) (w mid now : World) → Stands walk (stage.Cut page right) w → page_at w page ≡ Holds node → IsMiddle node low → new ≡ lower_half right node → mid ≡ edited walk.op page new w → now ≡ freed page walk.op mid → Stepped walk (stage.Post (record { low = low; child = right; left = page }) rise.Root) w now
cut_stepped walk page right node new low w mid now stands is middle made same gives =
    let cut = edited walk.op page (lower_half right node) w in
    let all : now ≡ freed page walk.op cut = gives ∙ ap (freed page walk.op) (same ∙ ap (λ v. edited walk.op page v w) made) in
    let s : Separator = record { low = low; child = right; left = page } in
    subst (Stepped walk (stage.Post s rise.Root) w) (sym all)
    (stepped_by walk (stage.Cut page right) (stage.Post s rise.Root) w (freed page walk.op (edited walk.op page (lower_half right node) w)) stands
    (λ here. let first = cut_step walk page right node w is here in IsStep-next walk.op w cut (freed page walk.op cut) first (free_step page walk.op cut first.apart))
    (λ here.
    let first = cut_step walk page right node w is here in
    let second = free_step page walk.op cut first.apart in
    let found = cut_separator walk page right node low w is middle here in
    ((found.0, second.at here.tree found.0 (Some low) right found.1, found.2, found.3, beside_kept cut (freed page walk.op cut) page right second.levels found.4), (cut_tidy walk page right node w is here, freed_none page walk.op (edited walk.op page (lower_half right node) w) here.place.3))))

pub cut_keys : (walk : Walk) (page right : ℕ) (node new : NodeValue) (w mid now : World) → Stands walk (stage.Cut page right) w → page_at w page ≡ Holds node → new ≡ lower_half right node → mid ≡ edited walk.op page new w → now ≡ freed page walk.op mid → KeepsKeys w now
cut_keys walk page right node new w mid now stands is made same gives at keys chain =
    let cut = edited walk.op page (lower_half right node) w in
    let here = stands in
    let all : now ≡ freed page walk.op cut = gives ∙ ap (freed page walk.op) (same ∙ ap (λ v. edited walk.op page v w) made) in
    let first = KeepsKeys-cut walk.op page right node w (
    let here = stands in
    let facts = cut_facts walk page right node w is here in
    (here.apart, full_held walk (stage.Cut page right) page node w here facts.0, facts.0.enough, here.place.2, facts.1)) at keys chain in
    subst (λ v. Chain v at keys) (sym all) (free_keys page walk.op cut (cut_step walk page right node w is here).apart at keys first)
