-- Another root is named: links stay, and the tree is named by it.
use Rattle.std.proofs.Common.{◌≡◌, ℕ, zero, suc, ◌<◌, true, false, List, [], ◌∷◌, length, set, refl, sym, ap, ◌∙◌, arith, subst, ⊎_elim, Some, None}
use Rattle.std.specs.Prelude.{slice_get}
use Rattle.std.proofs.lemmas.Bool.{cases_eq, false≢true, true≢false}
use Rattle.std.proofs.lemmas.List.{get_or-set_same, get_or-set_other, length-set}
use Rattle.ct_node.specs.declared.root.Root.{Root}
use Rattle.ct_node.specs.declared.root.IndexRow.{IndexRow}
use Rattle.ct_node.specs.Nodes.{NodeValue}
use Rattle.ct_node.specs.Worlds.{World, Blank, Defines, Holds, DefinitionValue, page_at, IsLevel, has_latch, has_own, has_fresh, is_fresh, rooted, rooted_page, with_root, IsTidy}
use Rattle.ct_tree_laws.specs.declared.rise.Separator.{Separator}
use Rattle.ct_tree_laws.specs.Trees.{Tree, IsOf, IsInRole, IsEven, IsTree, IsApart}
use Rattle.ct_tree_laws.specs.Stands.{IsCrown, IsTidyBut, KeepsKeys, KeepsLevels, KeepsAt}
use Rattle.ct_tree_laws.proofs.Pages.{stays_linked, is_fresh-edited, has_fresh-edited, is_linked-edited, has_fresh_before, is_fresh_before, is_fresh_from, definition_within}
use Rattle.ct_tree_laws.proofs.Levels.{KeepsLevels-same}
use Rattle.ct_tree_laws.proofs.Kept.{KeepsLinks, IsEvenAt, IsReached, IsAlike-same, IsNamed}
use Rattle.ct_tree_laws.proofs.Steps.{LeavesLinks}
use Rattle.ct_tree_laws.proofs.Chains.{one_node}
use Rattle.ct_tree_laws.proofs.Keys.{leaf_at, one_tree, one_root, same_root, Chain-same}

-- a row that is set, and one beside it
slice_get-set_same : {X : Type 0} (xs : List X) (i : ℕ) (old new : X) → slice_get xs i ≡ Some old → slice_get (set xs i new) i ≡ Some new
slice_get-set_same [] i old new is = absurd (let no : None ≡ Some old = is in cc)
slice_get-set_same (x ∷ xs) zero old new is = refl
slice_get-set_same (x ∷ xs) (suc i) old new is = slice_get-set_same xs i old new is

slice_get-set_other : {X : Type 0} (xs : List X) (i j : ℕ) (new : X) → (j ≡ i → ⊥) → slice_get (set xs i new) j ≡ slice_get xs j
slice_get-set_other [] i j new differ = refl
slice_get-set_other (x ∷ xs) zero zero new differ = absurd (differ refl)
slice_get-set_other (x ∷ xs) zero (suc j) new differ = refl
slice_get-set_other (x ∷ xs) (suc i) zero new differ = refl
slice_get-set_other (x ∷ xs) (suc i) (suc j) new differ = slice_get-set_other xs i j new (λ one. differ (ap suc one))

module _ (op page : ℕ) (at : Root) (w : World) (apart : IsApart w) (t : Tree) (leaves : List ℕ) (tree : IsTree w at t leaves) (separator : Separator) (node : NodeValue) (owned : has_own op at.page w ≡ true) (mine : has_fresh op page w ≡ true) (held : page_at w page ≡ Holds node) (crown : IsCrown w t separator node) where
  -- a node by which the page would be linked
  abbrev linking : NodeValue
  linking = record node { right = page }

  -- the definition afterwards
  abbrev crowned : DefinitionValue
  crowned = record tree.def { rows = set tree.def.rows at.index (record tree.row { root = page }) }

  within : at.page < length w.pages
  within = definition_within w at.page tree.def tree.defined

  here : page_at (rooted op at page w) at.page ≡ Defines crowned
  here =
      get_or-set_same w.pages at.page (rooted_page at.index page (page_at w at.page)) Blank within
      ∙ ap (rooted_page at.index page) tree.defined
      ∙ ap (λ row. Defines (record tree.def { rows = set tree.def.rows at.index (with_root page row) })) tree.named

  other : (q : ℕ) → (q ≡ at.page → ⊥) → page_at (rooted op at page w) q ≡ page_at w q
  other q differ = get_or-set_other w.pages at.page q (rooted_page at.index page (page_at w at.page)) Blank differ

  not_definition : (q : ℕ) (v : NodeValue) → page_at w q ≡ Holds v → q ≡ at.page → ⊥
  not_definition q v is one = absurd (let no : Defines tree.def ≡ Holds v = sym tree.defined ∙ sym (ap (page_at w) one) ∙ is in cc)

  onward : (q : ℕ) (v : NodeValue) → page_at w q ≡ Holds v → page_at (rooted op at page w) q ≡ Holds v
  onward q v is = other q (not_definition q v is) ∙ is

  back : (q : ℕ) (v : NodeValue) → page_at (rooted op at page w) q ≡ Holds v → page_at w q ≡ Holds v
  back q v is = ⊎_elim
      (λ one. absurd (let no : Defines crowned ≡ Holds v = sym here ∙ sym (ap (page_at (rooted op at page w)) one) ∙ is in cc))
      (λ differ. sym (other q differ) ∙ is)
      (cases_eq q at.page)

  -- what is linked was so before, or is the new root
  linked_before : (q : ℕ) → (q ≡ page → ⊥) → is_fresh q (rooted op at page w) ≡ false → is_fresh q w ≡ false
  linked_before q differ is = sym (is_fresh-edited op page linking w q differ) ∙ is

  linked_after : (q : ℕ) → is_fresh q w ≡ false → is_fresh q (rooted op at page w) ≡ false
  linked_after q is = stays_linked op page linking w q is

  root_linked : is_fresh page (rooted op at page w) ≡ false
  root_linked = is_linked-edited op page linking w apart mine

  -- a tree that the new root is of is this one
  same_tree : (root : Root) (u : Tree) (also : List ℕ) → IsTree w root u also → IsOf u node → (root ≡ at) × (u ≡ t)
  same_tree root u also told of =
      let one : root ≡ at = same_root root at (one_root w root at u t also leaves node apart told tree of crown.of) in
      (one, one_tree w at t u leaves also tree (subst (λ r. IsTree w r u also) one told))

  named : KeepsAt w (rooted op at page w) → (root : Root) (u : Tree) (also : List ℕ) → IsTree w root u also → IsNamed (rooted op at page w) root u
  named keeps root u also told = ⊎_elim on_page elsewhere (cases_eq root.page at.page)
    where
      elsewhere : (root.page ≡ at.page → ⊥) → IsNamed (rooted op at page w) root u
      elsewhere differ = record { def = told.def; row = told.row; defined = other root.page differ ∙ told.defined; named = told.named; file = told.file; key_len = told.key_len; first = told.first; root = (told.root.0, keeps u told.root.0 None told.row.root told.root.1) }

      on_page : root.page ≡ at.page → IsNamed (rooted op at page w) root u
      on_page one = ⊎_elim mine_too beside (cases_eq root.index at.index)
        where
          same_def : told.def ≡ tree.def
          same_def = let both : Defines told.def ≡ Defines tree.def = sym told.defined ∙ ap (page_at w) one ∙ tree.defined in cc

          defined : page_at (rooted op at page w) root.page ≡ Defines crowned
          defined = ap (page_at (rooted op at page w)) one ∙ here

          file : tree.def.file ≡ u.file
          file = ap (λ (d : DefinitionValue). d.file) (sym same_def) ∙ told.file

          row_there : slice_get tree.def.rows root.index ≡ Some told.row
          row_there = ap (λ (d : DefinitionValue). slice_get d.rows root.index) (sym same_def) ∙ told.named

          beside : (root.index ≡ at.index → ⊥) → IsNamed (rooted op at page w) root u
          beside differ = record { def = crowned; row = told.row; defined = defined; named = slice_get-set_other tree.def.rows at.index root.index (record tree.row { root = page }) differ ∙ row_there; file = file; key_len = told.key_len; first = told.first; root = (told.root.0, keeps u told.root.0 None told.row.root told.root.1) }

          mine_too : root.index ≡ at.index → IsNamed (rooted op at page w) root u
          mine_too same =
              let row : told.row ≡ tree.row = (let both : Some told.row ≡ Some tree.row = sym row_there ∙ ap (slice_get tree.def.rows) same ∙ tree.named in cc) in
              let key_len : tree.row.key_len ≡ u.key_len = ap (λ (r : IndexRow). r.key_len) (sym row) ∙ told.key_len in
              let of : IsOf u node = record { file = crown.of.file ∙ sym tree.file ∙ file; index = crown.of.index ∙ tree.index ∙ sym same ∙ sym told.index } in
              record {
                def = crowned;
                row = record tree.row { root = page };
                defined = defined;
                named = ap (slice_get (set tree.def.rows at.index (record tree.row { root = page }))) same ∙ slice_get-set_same tree.def.rows at.index tree.row (record tree.row { root = page }) tree.named;
                file = file;
                key_len = key_len;
                first = ap (λ (r : IndexRow). r.first) (sym row) ∙ told.first;
                root = (false, record { node = node; is = onward page node held; of = of; key_len = crown.role.key_len ∙ sym tree.key_len ∙ key_len; kind = crown.inner; from = crown.low; linked = root_linked });
              }

  levels : KeepsLevels w (rooted op at page w)
  levels = KeepsLevels-same w (rooted op at page w) onward

  KeepsLinks-rooted : KeepsLinks w (rooted op at page w)
  KeepsLinks-rooted = record {
    onward = λ q v reached. (v, record { is = onward q v reached.is; linked = linked_after q reached.linked }, IsAlike-same v);
    back = λ q v reached leaf. (v, record { is = back q v reached.is; linked = linked_before q (not_root q v reached.is leaf) reached.linked }, IsAlike-same v);
    inner = inner;
    even = even;
    levels = levels;
    named = named;
  }
    where
      node_there : (v : NodeValue) → page_at (rooted op at page w) page ≡ Holds v → v ≡ node
      node_there v is = one_node w page node v held (back page v is)

      not_root : (q : ℕ) (v : NodeValue) → page_at (rooted op at page w) q ≡ Holds v → v.leaf ≡ true → q ≡ page → ⊥
      not_root q v is leaf one = true≢false (sym leaf ∙ ap (λ (u : NodeValue). u.leaf) (node_there v (sym (ap (page_at (rooted op at page w)) one) ∙ is)) ∙ crown.inner)

      inner : (q : ℕ) (v : NodeValue) → IsReached (rooted op at page w) q v → v.leaf ≡ false → (root : Root) (u : Tree) (also : List ℕ) → IsTree w root u also → IsOf u v → IsInRole w u v
      inner q v reached kind root u also told of = ⊎_elim
          (λ one.
          let same : v ≡ node = node_there v (sym (ap (page_at (rooted op at page w)) one) ∙ reached.is) in
          let found = same_tree root u also told (subst (IsOf u) same of) in
          subst (λ x. IsInRole w x v) (sym found.1) (subst (IsInRole w t) (sym same) crown.role))
          (λ differ. told.roles q v (back q v reached.is) of (linked_before q differ reached.linked))
          (cases_eq q page)

      even : (q : ℕ) (v : NodeValue) → IsReached (rooted op at page w) q v → v.leaf ≡ false → (root : Root) (u : Tree) (also : List ℕ) → IsTree w root u also → IsOf u v → IsEvenAt w q v
      even q v reached kind root u also told of = ⊎_elim
          (λ one.
          let same : v ≡ node = node_there v (sym (ap (page_at (rooted op at page w)) one) ∙ reached.is) in
          let lower = crown.even.0 in
          (suc lower, subst (IsLevel w (suc lower)) (sym one) (node, crown.first, crown.rest, held, crown.inner, crown.entries, crown.even.1), subst (IsEven w (suc lower)) (sym same) crown.even.2))
          (λ differ. told.levels q v (back q v reached.is) of (linked_before q differ reached.linked))
          (cases_eq q page)

  IsApart-rooted : IsApart (rooted op at page w)
  IsApart-rooted = record {
    latches = apart.latches;
    owners = λ q o also has too. apart.owners q o also (has_fresh_before op page linking w o q has) (has_fresh_before op page linking w also q too);
    within = λ q fresh. let old : q < length w.pages = apart.within q (is_fresh_before op page linking w q fresh) in let long = length-set w.pages at.page (rooted_page at.index page (page_at w at.page)) in omega arith;
    some = let long = length-set w.pages at.page (rooted_page at.index page (page_at w at.page)) in let some = apart.some in omega arith;
    zero = linked_after 0 apart.zero;
    settled = λ q def is. let was = before q def is in linked_after q (apart.settled q was.0 was.1);
    files = λ q also def told is there same.
        let first = before q def is in
        let second = before also told there in
        apart.files q also first.0 second.0 first.1 second.1 (first.2 ∙ same ∙ sym second.2);
  }
    where
      before : (q : ℕ) (def : DefinitionValue) → page_at (rooted op at page w) q ≡ Defines def → (old : DefinitionValue) × (page_at w q ≡ Defines old) × (old.file ≡ def.file)
      before q def is = ⊎_elim
          (λ one.
          let same : Defines crowned ≡ Defines def = sym here ∙ sym (ap (page_at (rooted op at page w)) one) ∙ is in
          let def_is : crowned ≡ def = cc in
          (tree.def, ap (page_at w) one ∙ tree.defined, ap (λ (d : DefinitionValue). d.file) def_is))
          (λ differ. (def, sym (other q differ) ∙ is, refl))
          (cases_eq q at.page)

  pub LeavesLinks-rooted : LeavesLinks op w (rooted op at page w)
  LeavesLinks-rooted = record {
    apart = IsApart-rooted;
    links = KeepsLinks-rooted;
    latch = λ another q differ. refl;
    own = λ another q differ. refl;
    fresh = λ another q differ. has_fresh-edited op page linking w another q differ;
    held = λ another q v differ latched reached. record { is = onward q v reached.is; linked = linked_after q reached.linked };
    blank = λ another q differ theirs. other q (λ one. false≢true (sym (apart.settled at.page tree.def tree.defined) ∙ is_fresh_from another at.page w (subst (λ p. has_fresh another p w ≡ true) one theirs)));
    defined = λ another q def differ latched is. other q (λ one. differ (apart.latches at.page op another owned (subst (λ p. has_latch another p w ≡ true) one latched))) ∙ is;
  }

  pub KeepsKeys-rooted : KeepsKeys w (rooted op at page w)
  KeepsKeys-rooted root keys chain = Chain-same w (rooted op at page w) root keys KeepsLinks-rooted chain
      (λ q among. let leaf = (leaf_at w root chain.tree chain.leaves chain.is q among).1 in other q (not_definition q leaf.node leaf.is))

  -- the operation's other pages are as blank as before
  pub IsTidy-rooted : IsTidyBut op page w → IsTidy op (rooted op at page w)
  IsTidy-rooted tidy q fresh =
      let was : has_fresh op q w ≡ true = has_fresh_before op page linking w op q fresh in
      let not_root : q ≡ page → ⊥ = λ one. false≢true (sym root_linked ∙ subst (λ p. is_fresh p (rooted op at page w) ≡ true) one (is_fresh_from op q (rooted op at page w) fresh)) in
      let not_named : q ≡ at.page → ⊥ = λ one. false≢true (sym (apart.settled at.page tree.def tree.defined) ∙ is_fresh_from op at.page w (subst (λ p. has_fresh op p w ≡ true) one was)) in
      other q not_named ∙ tidy q was not_root
