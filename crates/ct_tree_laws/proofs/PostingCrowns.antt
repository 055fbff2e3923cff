-- The turns that write a new root and name it, while the definition page is the operation's own.
use Rattle.std.proofs.Common.{◌≡◌, ℕ, suc, Bool, true, false, ◌||◌, List, [], ◌∷◌, length, refl, sym, ap, ◌∙◌, subst, Some, None, find}
use Rattle.std.specs.Prelude.{slice_get}
use Rattle.std.proofs.lemmas.Bool.{false≢true, cond-false}
use Rattle.std.proofs.lemmas.List.Elements.{All-nil, All-cons}
use Rattle.ct_latch.specs.Latches.{bars, with_hold}
use Rattle.ct_node.specs.declared.root.IndexRow.{IndexRow}
use Rattle.ct_node.specs.Nodes.{Entry, NodeValue, IsNode, pairs_in, has_pair, with_entry}
use Rattle.ct_node.specs.Roles.{first_of}
use Rattle.ct_node.specs.Worlds.{World, Blank, Defines, Holds, DefinitionValue, page_at, IsLevel, has_latch, has_own, has_fresh, is_fresh, with_fresh, with_holds, edited, rooted, row_in, WritesRoot, RaisesRoot, IsTidy}
use Rattle.ct_node.proofs.Orders.{below, same, not_above, not_same}
use Rattle.ct_tree_laws.specs.declared.walk.Walk.{Walk}
use Rattle.ct_tree_laws.specs.declared.walk.Stage.{Stage}
use Rattle.ct_tree_laws.specs.declared.walk.Stage.TheVariants as stage
use Rattle.ct_tree_laws.specs.declared.rise.Separator.{Separator}
use Rattle.ct_tree_laws.specs.declared.rise.Rise.TheVariants as rise
use Rattle.ct_tree_laws.specs.Trees.{Tree, IsOf, IsAt, IsInRole, IsEven, IsTree, IsApart, Chain}
use Rattle.ct_tree_laws.specs.Stands.{HasOnly, HasDefinition, HasRoot, IsCrown, node_over, IsAtStage, Stands, Stepped, KeepsKeys}
use Rattle.ct_tree_laws.proofs.Taking.{owned, has_own-with_hold_new}
use Rattle.ct_tree_laws.proofs.Pages.{page_at-edited, page_at-edited_other, page_at-with_fresh, is_fresh_from, has_fresh_before, has_fresh-edited_mine, has_fresh-with_fresh}
use Rattle.ct_tree_laws.proofs.Levels.{IsEven-kept}
use Rattle.ct_tree_laws.proofs.Kept.{IsInRole-kept}
use Rattle.ct_tree_laws.proofs.Chains.{one_node}
use Rattle.ct_tree_laws.proofs.Steps.{IsStep, IsStep-next, IsStep-with_fresh, IsStep-from_links}
use Rattle.ct_tree_laws.proofs.Keys.{Chain-same, leaf_at}
use Rattle.ct_tree_laws.proofs.Turns.{at_stage, stepped_same}
use Rattle.ct_tree_laws.proofs.PutTurns.{stepped_by, freed, free_step, free_keys, freed_none, only_owned}
use Rattle.ct_tree_laws.proofs.Cuts.{same_itself}
use Rattle.ct_tree_laws.proofs.PostingEdits.{LeavesLinks-crowns}
use Rattle.ct_tree_laws.proofs.PostingRoots.{LeavesLinks-rooted, KeepsKeys-rooted, IsTidy-rooted}
use Rattle.ct_tree_laws.proofs.PostingTurns.{root_row, root_near, separator_after, owned_step}
use Rattle.ct_tree_laws.proofs.PostingSplits.{tidy_allocated}

-- the definition page becomes the operation's own
pub definition_owned : (walk : Walk) (s : Separator) (w now : World) → Stands walk (stage.Post s rise.Again) w → find (bars walk.at.page walk.op true) w.holds ≡ None → now ≡ with_holds (with_hold (owned walk.at.page walk.op) w.holds) w → Stepped walk (stage.Post s rise.Named) w now
definition_owned walk s w now stands free is = subst (Stepped walk (stage.Post s rise.Named) w) (sym is)
    (stepped_by walk (stage.Post s rise.Again) (stage.Post s rise.Named) w (with_holds (with_hold (owned walk.at.page walk.op) w.holds) w) stands (λ here. owned_step walk walk.at.page w free here.apart)
    (λ here.
    let after = with_holds (with_hold (owned walk.at.page walk.op) w.holds) w in (
      separator_after walk.op w after here.tree s (owned_step walk walk.at.page w free here.apart) here.place.0,
      (here.place.1.0, (here.is.def, record { page = walk.at.page; is = here.is.defined; file = here.is.file; owned = has_own-with_hold_new walk.at.page walk.op w; only = only_owned walk.at.page walk.op w here.place.1.1 })),
    )))

-- the page that the operation has is the definition page of its index
definition_page : (w : World) (walk : Walk) (t : Tree) (leaves : List ℕ) (def : DefinitionValue) → IsApart w → (tree : IsTree w walk.at t leaves) → (has : HasDefinition w t walk.op def) → (has.page ≡ walk.at.page) × (def ≡ tree.def)
definition_page w walk t leaves def apart tree has =
    let one : has.page ≡ walk.at.page = apart.files walk.at.page has.page tree.def def tree.defined has.is (tree.file ∙ sym has.file) in
    (one, (let both : Defines def ≡ Defines tree.def = sym has.is ∙ ap (page_at w) one ∙ tree.defined in cc))

-- the root is read again: it is still the page that was split
pub root_still : (walk : Walk) (s : Separator) (page : ℕ) (w now : World) → Stands walk (stage.Post s rise.Named) w → now ≡ w → page ≡ s.left → (row : IndexRow) × (row_in walk.at.index (page_at w walk.at.page) ≡ Some row) × (page ≡ row.root) → Stepped walk (stage.Post s rise.Grow) w now
root_still walk s page w now stands same left told = stepped_same walk (stage.Post s rise.Grow) w now same (
    let here = stands in
    let def = here.place.1.1.0 in
    let has = here.place.1.1.1 in
    let found = definition_page w walk here.tree here.leaves def here.apart here.is has in
    let row = root_row w walk here.tree here.leaves here.is told.0 told.1 in
    at_stage walk (stage.Post s rise.Named) (stage.Post s rise.Grow) w here (
      here.place.0,
      (
        here.place.1.0,
        record {
          def = def;
          row = told.0;
          has = has;
          named = ap (λ (d : DefinitionValue). slice_get d.rows here.tree.index) found.1 ∙ ap (slice_get here.is.def.rows) here.is.index ∙ here.is.named ∙ ap Some (sym row);
          old = sym told.2 ∙ left;
        },
      ),
    ))

-- or another one: the definition page is given back
pub root_other : (walk : Walk) (s : Separator) (page : ℕ) (w mid now : World) → Stands walk (stage.Post s rise.Named) w → mid ≡ w → now ≡ freed walk.at.page walk.op mid → (row : IndexRow) × (row_in walk.at.index (page_at w walk.at.page) ≡ Some row) × (page ≡ row.root) → Stepped walk (stage.Post s (rise.Down page None)) w now
root_other walk s page w mid now stands same gives told = subst (Stepped walk (stage.Post s (rise.Down page None)) w) (sym (gives ∙ ap (freed walk.at.page walk.op) same))
    (stepped_by walk (stage.Post s rise.Named) (stage.Post s (rise.Down page None)) w (freed walk.at.page walk.op w) stands (λ here. free_step walk.at.page walk.op w here.apart)
    (λ here.
    let has = here.place.1.1.1 in
    let found = definition_page w walk here.tree here.leaves here.place.1.1.0 here.apart here.is has in
    let near = root_near walk (stage.Post s rise.Named) s page w here told in
    let step = free_step walk.at.page walk.op w here.apart in (
      separator_after walk.op w (freed walk.at.page walk.op w) here.tree s step here.place.0,
      (here.place.1.0, (near.0, near.1, step.at here.tree near.0 near.1 page near.2, near.3), tt, freed_none walk.at.page walk.op w (subst (λ p. HasOnly walk.op p w) found.0 has.only)),
    )))

pub named_tidy : (walk : Walk) (s : Separator) (w mid : World) → Stands walk (stage.Post s rise.Named) w → mid ≡ w → IsTidy walk.op mid
named_tidy walk s w mid stands same = subst (IsTidy walk.op) (sym same) stands.place.1.0

pub named_freed_keys : (walk : Walk) (from : Stage) (page : ℕ) (w mid now : World) → Stands walk from w → mid ≡ w → now ≡ freed page walk.op mid → KeepsKeys w now
named_freed_keys walk from page w mid now stands same gives = subst (KeepsKeys w) (sym (gives ∙ ap (freed page walk.op) same)) (free_keys page walk.op w (stands.apart))

-- the root stays known where definitions that the operation has stay
root_kept : (w now : World) (t : Tree) (op : ℕ) (s : Separator) → (root : HasRoot w t op s) → page_at now root.has.page ≡ page_at w root.has.page → now.holds ≡ w.holds → HasRoot now t op s
root_kept w now t op s root same holds = record {
  def = root.def;
  row = root.row;
  has = record {
    page = root.has.page;
    is = same ∙ root.has.is;
    file = root.has.file;
    owned = ap (λ list. has_own op root.has.page (record w { holds = list })) holds ∙ root.has.owned;
    only = λ other latched. root.has.only other (sym (ap (λ list. has_latch op other (record w { holds = list })) holds) ∙ latched);
  };
  named = root.named;
  old = root.old;
}

-- a page for the new root is allocated
pub root_allocated : (walk : Walk) (s : Separator) (root : ℕ) (w now : World) → Stands walk (stage.Post s rise.Grow) w → root ≡ length w.pages → now ≡ with_fresh walk.op w → Stepped walk (stage.Post s (rise.Crown root)) w now
root_allocated walk s root w now stands new is = subst (Stepped walk (stage.Post s (rise.Crown root)) w) (sym is)
    (stepped_by walk (stage.Post s rise.Grow) (stage.Post s (rise.Crown root)) w (with_fresh walk.op w) stands (λ here. IsStep-with_fresh walk.op w here.apart)
    (λ here. (
      separator_after walk.op w (with_fresh walk.op w) here.tree s (IsStep-with_fresh walk.op w here.apart) here.place.0,
      (
        tidy_allocated walk.op w here.place.1.0,
        root_kept w (with_fresh walk.op w) here.tree walk.op s here.place.1.1 (page_at-with_fresh walk.op w here.place.1.1.has.page) refl,
        subst (λ q. has_fresh walk.op q (with_fresh walk.op w) ≡ true) (sym new) (has_fresh-with_fresh walk.op w),
      ),
    )))

-- the page that was split is the root
pub root_left : (walk : Walk) (s : Separator) (w : World) (t : Tree) (leaves : List ℕ) → IsApart w → (tree : IsTree w walk.at t leaves) → HasRoot w t walk.op s → tree.row.root ≡ s.left
root_left walk s w t leaves apart tree has =
    let found = definition_page w walk t leaves has.def apart tree has.has in
    let both : Some has.row ≡ Some tree.row = sym has.named ∙ ap (λ (d : DefinitionValue). slice_get d.rows t.index) found.1 ∙ ap (slice_get tree.def.rows) tree.index ∙ tree.named in
    let row : has.row ≡ tree.row = cc in
    ap (λ (r : IndexRow). r.root) (sym row) ∙ has.old

pub root_at : (walk : Walk) (s : Separator) (w : World) (t : Tree) (leaves : List ℕ) → IsApart w → (tree : IsTree w walk.at t leaves) → HasRoot w t walk.op s → IsAt w t tree.root.0 None s.left
root_at walk s w t leaves apart tree has = subst (IsAt w t tree.root.0 None) (root_left walk s w t leaves apart tree has) tree.root.1

-- what the old root is
record IsOld (w : World) (t : Tree) (page : ℕ) (node : NodeValue) : Type 0 where
  pub leaf : Bool
  pub at : IsAt w t leaf None page
  pub is : at.node ≡ node

old_root : (walk : Walk) (s : Separator) (root : ℕ) (node : NodeValue) (w : World) → page_at w s.left ≡ Holds node → (here : Stands walk (stage.Post s (rise.Crown root)) w) → IsOld w here.tree s.left node
old_root walk s root node w is here =
    let at = root_at walk s w here.tree here.leaves here.apart here.is here.place.1.1 in
    record { leaf = here.is.root.0; at = at; is = one_node w s.left node at.node is at.is }

pub crown_key : (walk : Walk) (s : Separator) (root : ℕ) (node : NodeValue) (w mid : World) → Stands walk (stage.Post s (rise.Crown root)) w → page_at w s.left ≡ Holds node → mid ≡ w → (node.key_len ≡ length s.low.key → ⊥) → ⊥
crown_key walk s root node w mid stands is same differ = (
    let here = stands in
    let old = old_root walk s root node w is here in
    differ (ap (λ (v : NodeValue). v.key_len) (sym old.is) ∙ old.at.key_len ∙ sym here.place.0.2))

module _ (walk : Walk) (s : Separator) (root : ℕ) (node : NodeValue) (w : World) (is : page_at w s.left ≡ Holds node) (here : Stands walk (stage.Post s (rise.Crown root)) w) where
  -- the new root's two entries
  abbrev first_entry : Entry
  first_entry = record { pair = first_of node.key_len None; child = s.left }

  abbrev second_entry : Entry
  second_entry = record { pair = s.low; child = s.child }

  abbrev drawn : NodeValue
  drawn = record (node_over node s.left) { entries = first_entry ∷ second_entry ∷ [] }

  old : IsOld w here.tree s.left node
  old = old_root walk s root node w is here

  of : IsOf here.tree node
  of = subst (IsOf here.tree) old.is old.at.of

  key_len : node.key_len ≡ here.tree.key_len
  key_len = ap (λ (v : NodeValue). v.key_len) (sym old.is) ∙ old.at.key_len

  up : below (first_of node.key_len None) s.low ≡ true
  up = subst (λ n. below (first_of n None) s.low ≡ true) (sym key_len) here.place.0.3

  pub drawn_is : (base new : NodeValue) → base ≡ node_over node s.left → new ≡ record base { entries = with_entry second_entry base.entries } → new ≡ drawn
  drawn_is base new first second =
      second ∙ ap (λ (v : NodeValue). record v { entries = with_entry second_entry v.entries }) first
      ∙ ap (λ es. record (node_over node s.left) { entries = es }) (cond-false (below s.low (first_of node.key_len None)) (second_entry ∷ first_entry ∷ []) (first_entry ∷ second_entry ∷ []) (not_above (first_of node.key_len None) s.low up))

  pub drawn_absent : (base : NodeValue) → base ≡ node_over node s.left → has_pair s.low (pairs_in base) ≡ true → ⊥
  drawn_absent base first has =
      let told : (same (first_of node.key_len None) s.low || false) ≡ true = ap (λ (v : NodeValue). has_pair s.low (pairs_in v)) (sym first) ∙ has in
      false≢true (sym (ap (λ b. b || false) (not_same (first_of node.key_len None) s.low up)) ∙ told)

  drawn_role : IsNode drawn → IsInRole w here.tree drawn
  drawn_role sound = record {
    key_len = key_len;
    node_is = sound;
    rises = tt;
    last = λ _. refl;
    right = λ link told. absurd (let no : None ≡ Some link = told in cc);
    inner = λ _. record {
      first = first_entry;
      rest = second_entry ∷ [];
      is = refl;
      begins = same_itself (first_of node.key_len None);
      least = (old.leaf, old.at);
      others = All-cons (λ (entry : Entry). (leaf : Bool) × IsAt w here.tree leaf (Some entry.pair) entry.child) second_entry [] (here.place.0.0, here.place.0.1) (All-nil (λ (entry : Entry). (leaf : Bool) × IsAt w here.tree leaf (Some entry.pair) entry.child));
    };
  }

  -- both pages below are on the old root's level
  drawn_even : (lower : ℕ) × IsLevel w lower s.left × IsEven w (suc lower) drawn
  drawn_even =
      let beside = here.place.0.4 in (
        beside.0,
        beside.1,
        record {
          right = λ link told. absurd (let no : None ≡ Some link = told in cc);
          below = λ _. (beside.0, refl, All-cons (λ (entry : Entry). IsLevel w beside.0 entry.child) first_entry (second_entry ∷ []) beside.1 (All-cons (λ (entry : Entry). IsLevel w beside.0 entry.child) second_entry [] beside.2 (All-nil (λ (entry : Entry). IsLevel w beside.0 entry.child))));
        },
      )

  drawn_crown : IsNode drawn → IsCrown w here.tree s drawn
  drawn_crown sound = record { first = first_entry; rest = second_entry ∷ []; of = record { file = of.file; index = of.index }; inner = refl; low = refl; high = refl; entries = refl; old = refl; role = drawn_role sound; even = drawn_even }

  drawn_writes : IsNode drawn → WritesRoot walk.op root drawn w
  drawn_writes sound =
      let has = here.place.1.1 in
      let found = definition_page w walk here.tree here.leaves has.def here.apart here.is has.has in
      let row : has.row ≡ here.is.row = (let both : Some has.row ≡ Some here.is.row = sym has.named ∙ ap (λ (d : DefinitionValue). slice_get d.rows here.tree.index) found.1 ∙ ap (slice_get here.is.def.rows) here.is.index ∙ here.is.named in cc) in
      let below_it = here.place.0.1 in
      record {
        at = walk.at;
        row = here.is.row;
        first = first_entry;
        second = second_entry;
        old = node;
        below = below_it.node;
        is = ap (row_in walk.at.index) here.is.defined ∙ here.is.named;
        owned = subst (λ p. has_own walk.op p w ≡ true) found.0 has.has.owned;
        blank = here.place.1.0 root here.place.1.2;
        mine = here.place.1.2;
        inner = refl;
        low = refl;
        high = refl;
        right = refl;
        entries = refl;
        is_first = refl;
        is_old = sym has.old ∙ ap (λ (r : IndexRow). r.root) row;
        stood = is;
        of = (refl, refl, refl);
        there = record { is = below_it.is; linked = below_it.linked; file = below_it.of.file ∙ sym of.file; index = below_it.of.index ∙ sym of.index; key_len = below_it.key_len ∙ sym key_len; from = below_it.from };
        level = here.place.0.4;
        sound = sound;
      }

  pub writes_root : (new : NodeValue) → new ≡ drawn → IsNode new → WritesRoot walk.op root new w
  writes_root new made sound = subst (λ v. WritesRoot walk.op root v w) (sym made) (drawn_writes (subst IsNode made sound))

  pub crowned_place : (new : NodeValue) → new ≡ drawn → IsNode new → IsAtStage (edited walk.op root new w) here.tree walk.op walk.target (stage.Post s (rise.Crowned root))
  crowned_place new made sound =
      let now = edited walk.op root new w in
      let writes = writes_root new made sound in
      let step = IsStep-from_links walk.op w now (LeavesLinks-crowns walk.op root new w here.apart writes) in
      let has = here.place.1.1 in
      let not_there : has.has.page ≡ root → ⊥ = λ one. absurd (let no : Blank ≡ Defines has.def = sym writes.blank ∙ sym (ap (page_at w) one) ∙ has.has.is in cc) in
      let not_right : root ≡ new.right → ⊥ = λ one. false≢true (sym here.apart.zero ∙ subst (λ p. is_fresh p w ≡ true) (one ∙ writes.right) (is_fresh_from walk.op root w here.place.1.2)) in
      let crown : IsCrown w here.tree s new = subst (IsCrown w here.tree s) (sym made) (drawn_crown (subst IsNode made sound)) in (
        separator_after walk.op w now here.tree s step here.place.0,
        (
          λ q mine apart. page_at-edited_other walk.op root new w q apart ∙ here.place.1.0 q (has_fresh_before walk.op root new w walk.op q mine),
          root_kept w now here.tree walk.op s has (page_at-edited_other walk.op root new w has.has.page not_there) refl,
          has_fresh-edited_mine walk.op root new w walk.op root not_right ∙ here.place.1.2,
          (new, page_at-edited walk.op root new w (here.apart.within root (is_fresh_from walk.op root w here.place.1.2)), record { first = crown.first; rest = crown.rest; of = crown.of; inner = crown.inner; low = crown.low; high = crown.high; entries = crown.entries; old = crown.old; role = IsInRole-kept w now here.tree new step.at crown.role; even = (crown.even.0, step.levels crown.even.0 crown.first.child crown.even.1, IsEven-kept w now (suc crown.even.0) new step.levels crown.even.2) }),
        ),
      )

-- the new root is written
pub crown_absent : (walk : Walk) (s : Separator) (root : ℕ) (node base : NodeValue) (w mid : World) → Stands walk (stage.Post s (rise.Crown root)) w → page_at w s.left ≡ Holds node → mid ≡ w → base ≡ node_over node s.left → has_pair s.low (pairs_in base) ≡ true → ⊥
crown_absent walk s root node base w mid stands is same made has = (drawn_absent walk s root node w is stands base made has)

pub crown_writes : (walk : Walk) (s : Separator) (root : ℕ) (node base new : NodeValue) (w : World) → page_at w s.left ≡ Holds node → base ≡ node_over node s.left → new ≡ record base { entries = with_entry (record { pair = s.low; child = s.child }) base.entries } → IsNode new → Stands walk (stage.Post s (rise.Crown root)) w → WritesRoot walk.op root new w
crown_writes walk s root node base new w is first second sound here = writes_root walk s root node w is here new (drawn_is walk s root node w is here base new first second) sound

pub crown_written : (walk : Walk) (s : Separator) (root : ℕ) (node base new : NodeValue) (w now : World) → Stands walk (stage.Post s (rise.Crown root)) w → page_at w s.left ≡ Holds node → base ≡ node_over node s.left → new ≡ record base { entries = with_entry (record { pair = s.low; child = s.child }) base.entries } → IsNode new → now ≡ edited walk.op root new w → Stepped walk (stage.Post s (rise.Crowned root)) w now
crown_written walk s root node base new w now stands is first second sound same = subst (Stepped walk (stage.Post s (rise.Crowned root)) w) (sym same)
    (stepped_by walk (stage.Post s (rise.Crown root)) (stage.Post s (rise.Crowned root)) w (edited walk.op root new w) stands
    (λ here. IsStep-from_links walk.op w (edited walk.op root new w) (LeavesLinks-crowns walk.op root new w here.apart (crown_writes walk s root node base new w is first second sound here)))
    (λ here. crowned_place walk s root node w is here new (drawn_is walk s root node w is here base new first second) sound))

pub crown_written_keys : (walk : Walk) (s : Separator) (root : ℕ) (node base new : NodeValue) (w now : World) → Stands walk (stage.Post s (rise.Crown root)) w → page_at w s.left ≡ Holds node → base ≡ node_over node s.left → new ≡ record base { entries = with_entry (record { pair = s.low; child = s.child }) base.entries } → IsNode new → now ≡ edited walk.op root new w → KeepsKeys w now
crown_written_keys walk s root node base new w now stands is first second sound same = subst (KeepsKeys w) (sym same) (λ at keys chain.
    let here = stands in
    let writes = crown_writes walk s root node base new w is first second sound here in
    Chain-same w (edited walk.op root new w) at keys (LeavesLinks-crowns walk.op root new w here.apart writes).links chain (λ q among. page_at-edited_other walk.op root new w q (λ one.
    let leaf = (leaf_at w at chain.tree chain.leaves chain.is q among).1 in
    absurd (let no : Blank ≡ Holds leaf.node = sym writes.blank ∙ sym (ap (page_at w) one) ∙ leaf.is in cc))))

-- the new root is named
module _ (walk : Walk) (s : Separator) (root : ℕ) (w : World) (here : Stands walk (stage.Post s (rise.Crowned root)) w) where
  definition : (here.place.1.1.has.page ≡ walk.at.page) × (here.place.1.1.def ≡ here.is.def)
  definition = definition_page w walk here.tree here.leaves here.place.1.1.def here.apart here.is here.place.1.1.has

  owns : has_own walk.op walk.at.page w ≡ true
  owns = subst (λ p. has_own walk.op p w ≡ true) definition.0 here.place.1.1.has.owned

  pub raises_root : RaisesRoot walk.op walk.at root w
  raises_root =
      let has = here.place.1.1 in
      let crown = here.place.1.3.2 in
      record {
        row = has.row;
        node = here.place.1.3.0;
        first = crown.first;
        rest = crown.rest;
        is = ap (row_in walk.at.index) here.is.defined ∙ ap (λ (d : DefinitionValue). slice_get d.rows walk.at.index) (sym definition.1) ∙ ap (slice_get has.def.rows) (sym here.is.index) ∙ has.named;
        owned = owns;
        mine = here.place.1.2;
        held = here.place.1.3.1;
        inner = crown.inner;
        low = crown.low;
        high = crown.high;
        above = crown.entries;
        old = crown.old ∙ sym has.old;
      }

  rooted_step : IsStep walk.op w (rooted walk.op walk.at root w)
  rooted_step = IsStep-from_links walk.op w (rooted walk.op walk.at root w) (LeavesLinks-rooted walk.op root walk.at w here.apart here.tree here.leaves here.is s here.place.1.3.0 owns here.place.1.2 here.place.1.3.1 here.place.1.3.2)

  rooted_tidy : IsTidy walk.op (rooted walk.op walk.at root w)
  rooted_tidy = IsTidy-rooted walk.op root walk.at w here.apart here.tree here.leaves here.is s here.place.1.3.0 owns here.place.1.2 here.place.1.3.1 here.place.1.3.2 here.place.1.0

  rooted_keys : KeepsKeys w (rooted walk.op walk.at root w)
  rooted_keys = KeepsKeys-rooted walk.op root walk.at w here.apart here.tree here.leaves here.is s here.place.1.3.0 owns here.place.1.2 here.place.1.3.1 here.place.1.3.2

  only_definition : HasOnly walk.op walk.at.page w
  only_definition = subst (λ p. HasOnly walk.op p w) definition.0 here.place.1.1.has.only

pub root_named_tidy : (walk : Walk) (s : Separator) (root : ℕ) (w mid : World) → Stands walk (stage.Post s (rise.Crowned root)) w → mid ≡ rooted walk.op walk.at root w → IsTidy walk.op mid
root_named_tidy walk s root w mid stands same = subst (IsTidy walk.op) (sym same) (rooted_tidy walk s root w stands)

pub root_named : (walk : Walk) (s : Separator) (root : ℕ) (w mid now : World) → Stands walk (stage.Post s (rise.Crowned root)) w → mid ≡ rooted walk.op walk.at root w → now ≡ freed walk.at.page walk.op mid → Stepped walk stage.Start w now
root_named walk s root w mid now stands same gives =
    let after = rooted walk.op walk.at root w in
    subst (Stepped walk stage.Start w) (sym (gives ∙ ap (freed walk.at.page walk.op) same))
    (stepped_by walk (stage.Post s (rise.Crowned root)) stage.Start w (freed walk.at.page walk.op after) stands
    (λ here. let first = rooted_step walk s root w here in IsStep-next walk.op w after (freed walk.at.page walk.op after) first (free_step walk.at.page walk.op after first.apart))
    (λ here. (rooted_tidy walk s root w here, freed_none walk.at.page walk.op after (only_definition walk s root w here))))

pub root_named_keys : (walk : Walk) (s : Separator) (root : ℕ) (w mid now : World) → Stands walk (stage.Post s (rise.Crowned root)) w → mid ≡ rooted walk.op walk.at root w → now ≡ freed walk.at.page walk.op mid → KeepsKeys w now
root_named_keys walk s root w mid now stands same gives at keys chain =
    let after = rooted walk.op walk.at root w in
    let here = stands in
    subst (λ v. Chain v at keys) (sym (gives ∙ ap (freed walk.at.page walk.op) same))
    (free_keys walk.at.page walk.op after (rooted_step walk s root w here).apart at keys (rooted_keys walk s root w here at keys chain))
