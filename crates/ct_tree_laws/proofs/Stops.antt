-- A stop leaves trees: the pages of operations that were under way are lost.
use Rattle.std.proofs.Common.{◌≡◌, ℕ, ◌^◌, ◌||◌, Bool, true, false, List, [], ◌∷◌, ◌++◌, map, length, eqb, refl, sym, ap, ◌∙◌, subst}
use Rattle.std.specs.List.{list_any}
use Rattle.std.proofs.lemmas.Bool.{false≢true, and_parts, eqb-true, cases_Bool}
use Rattle.ct_definitions.specs.Pairs.{Pair}
use Rattle.ct_node.specs.declared.root.Owner.{Owner}
use Rattle.ct_node.specs.declared.root.Root.{Root}
use Rattle.ct_node.specs.declared.target.Target.TheVariants.{At}
use Rattle.ct_node.specs.Worlds.{World, is_owner, is_fresh, has_fresh, lost_owner, with_lost}
use Rattle.ct_tree_laws.specs.declared.walk.Walk.{Walk}
use Rattle.ct_tree_laws.specs.declared.walk.Stage.{Stage}
use Rattle.ct_tree_laws.specs.declared.walk.Stage.TheVariants as stage
use Rattle.ct_tree_laws.specs.Trees.{Tree, IsTree, IsApart, Chain}
use Rattle.ct_tree_laws.specs.Stands.{Stands}
use Rattle.ct_tree_laws.specs.Stops.{lost_by_stop, stopped}
use Rattle.ct_tree_laws.proofs.Kept.{IsTree-kept}
use Rattle.ct_tree_laws.proofs.Steps.{KeepsLinks-same}

-- the same pages are reached by no link
same_fresh : (page : ℕ) (fresh : List Owner) (lost : List ℕ) → list_any (λ (owner : Owner). eqb owner.page page) (map lost_owner (map (λ (owner : Owner). owner.page) fresh ++ lost)) ≡ list_any (λ (owner : Owner). eqb owner.page page) (fresh ++ map lost_owner lost)
same_fresh page [] lost = refl
same_fresh page (owner ∷ fresh) lost = ap (λ b. eqb owner.page page || b) (same_fresh page fresh lost)

pub is_fresh-stopped : (lost : List ℕ) (w : World) (page : ℕ) → is_fresh page (stopped lost w) ≡ is_fresh page (with_lost lost w)
is_fresh-stopped lost w page = same_fresh page w.fresh lost

pub tree_stopped : (lost : List ℕ) (w : World) (at : Root) (t : Tree) (leaves : List ℕ) → IsTree (with_lost lost w) at t leaves → IsTree (stopped lost w) at t leaves
tree_stopped lost w at t leaves tree = IsTree-kept (with_lost lost w) (stopped lost w) at t leaves (KeepsLinks-same (with_lost lost w) (stopped lost w) (λ page. refl) (λ page node is. is_fresh-stopped lost w page)) tree

-- lost pages belong to no operation
lost_number : (op page : ℕ) (lost : List ℕ) → list_any (is_owner op page) (map lost_owner lost) ≡ true → op ≡ 2 ^ 64
lost_number op page [] is = absurd (false≢true is)
lost_number op page (other ∷ lost) is = by_test (is_owner op page (lost_owner other)) refl is (lost_number op page lost)
  where
    by_test : (test : Bool) → is_owner op page (lost_owner other) ≡ test → (test || list_any (is_owner op page) (map lost_owner lost)) ≡ true → (list_any (is_owner op page) (map lost_owner lost) ≡ true → op ≡ 2 ^ 64) → op ≡ 2 ^ 64
    by_test true same found rest = sym (eqb-true (2 ^ 64) op (and_parts (eqb other page) (eqb (2 ^ 64) op) same).1)
    by_test false same found rest = rest found

pub apart_stopped : (lost : List ℕ) (w : World) → IsApart (with_lost lost w) → IsApart (stopped lost w)
apart_stopped lost w apart = record {
  latches = λ page op other own latched. absurd (false≢true own);
  owners = λ page op other mine also. lost_number other page (lost_by_stop lost w) also ∙ sym (lost_number op page (lost_by_stop lost w) mine);
  within = λ page fresh. apart.within page (sym (is_fresh-stopped lost w page) ∙ fresh);
  some = apart.some;
  zero = is_fresh-stopped lost w 0 ∙ apart.zero;
  settled = λ page def is. is_fresh-stopped lost w page ∙ apart.settled page def is;
  files = apart.files;
}

-- any operation may begin again
pub begins_stopped : (lost : List ℕ) (w : World) (before walk : Walk) (at : Stage) → Stands before at (with_lost lost w) → walk.at ≡ before.at → ((pair : Pair) (tree : Tree) (leaves : List ℕ) → IsTree (with_lost lost w) before.at tree leaves → walk.target ≡ At pair → length pair.key ≡ tree.key_len) → (walk.op ≡ 2 ^ 64 → ⊥) → Stands walk stage.Start (stopped lost w)
begins_stopped lost w before walk at stands same key number = record {
  tree = stands.tree;
  leaves = stands.leaves;
  is = subst (λ root. IsTree (stopped lost w) root stands.tree stands.leaves) (sym same) (tree_stopped lost w before.at stands.tree stands.leaves stands.is);
  apart = apart_stopped lost w stands.apart;
  key = λ pair is. key pair stands.tree stands.leaves stands.is is;
  place = (λ page mine. absurd (number (lost_number walk.op page (lost_by_stop lost w) mine)), λ page. refl);
}
