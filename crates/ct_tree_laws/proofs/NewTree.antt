-- A new index in memory is a tree with one leaf and no pair, and any operation may begin on it.
use Rattle.std.proofs.Common.{◌≡◌, ℕ, zero, suc, ◌≤◌, true, [], ◌∷◌, length, refl, sym, ◌∙◌, arith, subst, inl, Some, None}
use Rattle.std.proofs.lemmas.Bool.{false≢true}
use Rattle.std.proofs.lemmas.List.Elements.{All-nil}
use Rattle.ct_definitions.specs.Pairs.{Pair}
use Rattle.ct_node.specs.declared.target.Target.TheVariants.{At}
use Rattle.ct_node.specs.Nodes.{NodeValue, IsNode, is_within}
use Rattle.ct_node.specs.Worlds.{Blank, Defines, Holds, DefinitionValue, page_at, IsLevel}
use Rattle.ct_node.specs.MemWorlds.{empty_leaf, new_world}
use Rattle.ct_tree_laws.specs.declared.walk.Walk.{Walk}
use Rattle.ct_tree_laws.specs.declared.walk.Stage.TheVariants as stage
use Rattle.ct_tree_laws.specs.Trees.{Tree, IsOf, IsAt, IsInRole, IsEven, IsTree, IsApart, Chain}
use Rattle.ct_tree_laws.specs.Stands.{Stands}

module _ (key_len : ℕ) (some : 1 ≤ key_len) (short : key_len ≤ 128) where
  page_one : (page : ℕ) (node : NodeValue) → page_at (new_world key_len) page ≡ Holds node → (page ≡ 1) × (node ≡ empty_leaf key_len)
  page_one zero node is = absurd (let no : Defines (record { file = 0; rows = record { root = 1; first = 1; key_len = key_len } ∷ [] }) ≡ Holds node = is in cc)
  page_one (suc zero) node is = (refl, (let both : Holds (empty_leaf key_len) ≡ Holds node = is in cc))
  page_one (suc (suc page)) node is = absurd (let no : Blank ≡ Holds node = is in cc)

  page_zero : (page : ℕ) (def : DefinitionValue) → page_at (new_world key_len) page ≡ Defines def → page ≡ 0
  page_zero zero def is = refl
  page_zero (suc zero) def is = absurd (let no : Holds (empty_leaf key_len) ≡ Defines def = is in cc)
  page_zero (suc (suc page)) def is = absurd (let no : Blank ≡ Defines def = is in cc)

  leaf_is : IsNode (empty_leaf key_len)
  leaf_is = record { some_key = some; short_key = short; room = omega arith; order = λ i j d first within. absurd (omega (arith, within)); bounds = All-nil (λ pair. is_within None None pair ≡ true) }

  at_leaf : (t : Tree) → IsOf t (empty_leaf key_len) → key_len ≡ t.key_len → IsAt (new_world key_len) t true None 1
  at_leaf t of same = record { node = empty_leaf key_len; is = refl; of = of; key_len = same; kind = refl; from = refl; linked = refl }

  leaf_role : (t : Tree) → key_len ≡ t.key_len → IsInRole (new_world key_len) t (empty_leaf key_len)
  leaf_role t same = record {
    key_len = same;
    node_is = leaf_is;
    rises = tt;
    last = λ _. refl;
    right = λ link is. absurd (let no : None ≡ Some link = is in cc);
    inner = λ inner. absurd (false≢true (sym inner));
  }

  leaf_even : IsEven (new_world key_len) 0 (empty_leaf key_len)
  leaf_even = record {
    right = λ link is. absurd (let no : None ≡ Some link = is in cc);
    below = λ inner. absurd (false≢true (sym inner));
  }

  pub new_tree : IsTree (new_world key_len) (record { page = 0; index = 0 }) (record { file = 0; index = 0; key_len = key_len; first = 1 }) (1 ∷ [])
  new_tree =
      let t : Tree = record { file = 0; index = 0; key_len = key_len; first = 1 } in
      let of : IsOf t (empty_leaf key_len) = record { file = refl; index = refl } in
      record {
        def = record { file = 0; rows = record { root = 1; first = 1; key_len = key_len } ∷ [] };
        row = record { root = 1; first = 1; key_len = key_len };
        defined = refl;
        named = refl;
        file = refl;
        index = refl;
        key_len = refl;
        first = refl;
        root = (true, at_leaf t of refl);
        linked = (None, refl, at_leaf t of refl, refl);
        all = λ page node is of leaf linked. inl (page_one page node is).0;
        roles = λ page node is of linked. subst (IsInRole (new_world key_len) t) (sym (page_one page node is).1) (leaf_role t refl);
        levels = λ page node is of linked. let one = page_one page node is in (0, subst (IsLevel (new_world key_len) 0) (sym one.0) (empty_leaf key_len, refl, refl), subst (IsEven (new_world key_len) 0) (sym one.1) leaf_even);
      }

  pub new_apart : IsApart (new_world key_len)
  new_apart = record {
    latches = λ page op other own latched. absurd (false≢true own);
    owners = λ page op other mine also. absurd (false≢true mine);
    within = λ page fresh. absurd (false≢true fresh);
    some = omega arith;
    zero = refl;
    settled = λ page def is. refl;
    files = λ page other def also is told same. page_zero other also told ∙ sym (page_zero page def is);
  }

  pub new_stands : (walk : Walk) → walk.at ≡ record { page = 0; index = 0 } → ((pair : Pair) → walk.target ≡ At pair → length pair.key ≡ key_len) → Stands walk stage.Start (new_world key_len)
  new_stands walk at key = record {
    tree = record { file = 0; index = 0; key_len = key_len; first = 1 };
    leaves = 1 ∷ [];
    is = subst (λ root. IsTree (new_world key_len) root (record { file = 0; index = 0; key_len = key_len; first = 1 }) (1 ∷ [])) (sym at) new_tree;
    apart = new_apart;
    key = key;
    place = (λ page mine. absurd (false≢true mine), λ page. refl);
  }

  pub new_chain : Chain (new_world key_len) (record { page = 0; index = 0 }) []
  new_chain = record { tree = record { file = 0; index = 0; key_len = key_len; first = 1 }; leaves = 1 ∷ []; is = new_tree; keys_are = refl }
