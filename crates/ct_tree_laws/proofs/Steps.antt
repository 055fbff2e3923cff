-- A call of one operation leaves what every other one remembers.
use Rattle.std.proofs.Common.{◌≡◌, ℕ, Bool, true, List, refl, sym, ap, ◌∙◌, subst, inl, inr, ⊎_elim, Option}
use Rattle.std.specs.List.{AllPass}
use Rattle.ct_node.specs.declared.root.Root.{Root}
use Rattle.ct_node.specs.declared.target.Target.{Target}
use Rattle.ct_definitions.specs.Pairs.{Pair}
use Rattle.ct_node.specs.Nodes.{NodeValue, pairs_in}
use Rattle.ct_node.specs.Places.{is_ahead, is_past}
use Rattle.ct_node.specs.Worlds.{World, Defines, Holds, DefinitionValue, page_at, has_latch, has_own, has_fresh, is_fresh, with_fresh}
use Rattle.ct_tree_laws.specs.Trees.{Tree, IsTree, IsApart, IsLeaf, IsLower, HasPassed}
use Rattle.ct_tree_laws.proofs.Taking.{ChangesLatches}
use Rattle.ct_tree_laws.proofs.Pages.{page_at-with_fresh, is_fresh-with_fresh, page_within, IsApart-with_fresh, has_fresh-with_fresh_other}
use Rattle.ct_tree_laws.specs.Stands.{KeepsLevels, KeepsAt}
use Rattle.ct_tree_laws.proofs.Levels.{KeepsLevels-same}
use Rattle.ct_tree_laws.proofs.Kept.{KeepsLinks, IsReached, IsAlike-same, KeepsAt-from_links, IsTree-kept, named_kept}
use Rattle.ct_tree_laws.proofs.Chains.{one_node}
use Rattle.ct_tree_laws.specs.Left.{HasPassedLeft}
use Rattle.ct_tree_laws.proofs.LeftKept.{HasPassedLeft-kept}

-- what a call of one operation leaves as it was, or as good as it was
pub record IsStep (op : ℕ) (w now : World) : Type 0 where
  pub apart : IsApart now
  pub at : KeepsAt w now
  pub levels : KeepsLevels w now
  pub tree : (at : Root) (t : Tree) (leaves : List ℕ) → IsTree w at t leaves → (after : List ℕ) × IsTree now at t after
  pub latch : (other page : ℕ) → (other ≡ op → ⊥) → has_latch other page now ≡ has_latch other page w
  pub own : (other page : ℕ) → (other ≡ op → ⊥) → has_own other page now ≡ has_own other page w
  pub fresh : (other page : ℕ) → (other ≡ op → ⊥) → has_fresh other page now ≡ has_fresh other page w
  pub held : (other page : ℕ) (node : NodeValue) → (other ≡ op → ⊥) → has_latch other page w ≡ true → IsReached w page node → IsReached now page node
  pub blank : (other page : ℕ) → (other ≡ op → ⊥) → has_fresh other page w ≡ true → page_at now page ≡ page_at w page
  pub defined : (other page : ℕ) (def : DefinitionValue) → (other ≡ op → ⊥) → has_latch other page w ≡ true → page_at w page ≡ Defines def → page_at now page ≡ Defines def
  pub passed : (other : ℕ) (t : Tree) (or_at : Bool) (target : Target) (low : Option Pair) → (other ≡ op → ⊥) → HasPassed w t other or_at target low → HasPassed now t other or_at target low
  pub left : (other : ℕ) (t : Tree) (or_at : Bool) (target : Target) (low : Pair) → (other ≡ op → ⊥) → HasPassedLeft w t other or_at target low → HasPassedLeft now t other or_at target low

pub IsStep-none : (op : ℕ) (w : World) → IsApart w → IsStep op w w
IsStep-none op w apart = record {
  apart = apart;
  at = λ t leaf low page is. is;
  levels = λ level page is. is;
  tree = λ at t leaves tree. (leaves, tree);
  latch = λ other page differ. refl;
  own = λ other page differ. refl;
  fresh = λ other page differ. refl;
  held = λ other page node differ latched reached. reached;
  blank = λ other page differ mine. refl;
  defined = λ other page def differ latched is. is;
  passed = λ other t or_at target low differ passed. passed;
  left = λ other t or_at target low differ passed. passed;
}

pub IsStep-next : (op : ℕ) (w mid now : World) → IsStep op w mid → IsStep op mid now → IsStep op w now
IsStep-next op w mid now first second = record {
  apart = second.apart;
  at = λ t leaf low page is. second.at t leaf low page (first.at t leaf low page is);
  levels = λ level page is. second.levels level page (first.levels level page is);
  tree = λ at t leaves tree. let after = first.tree at t leaves tree in second.tree at t after.0 after.1;
  latch = λ other page differ. second.latch other page differ ∙ first.latch other page differ;
  own = λ other page differ. second.own other page differ ∙ first.own other page differ;
  fresh = λ other page differ. second.fresh other page differ ∙ first.fresh other page differ;
  held = λ other page node differ latched reached. second.held other page node differ (first.latch other page differ ∙ latched) (first.held other page node differ latched reached);
  blank = λ other page differ mine. second.blank other page differ (first.fresh other page differ ∙ mine) ∙ first.blank other page differ mine;
  defined = λ other page def differ latched is. second.defined other page def differ (first.latch other page differ ∙ latched) (first.defined other page def differ latched is);
  passed = λ other t or_at target low differ passed. second.passed other t or_at target low differ (first.passed other t or_at target low differ passed);
  left = λ other t or_at target low differ passed. second.left other t or_at target low differ (first.left other t or_at target low differ passed);
}

-- where links stay, what a search has passed stays passed
pub HasPassed-kept : (w now : World) (other : ℕ) → KeepsLinks w now → ((page : ℕ) → has_latch other page now ≡ has_latch other page w) → ((page : ℕ) (node : NodeValue) → has_latch other page w ≡ true → IsReached w page node → IsReached now page node) → (t : Tree) (or_at : Bool) (target : Target) (low : Option Pair) → HasPassed w t other or_at target low → HasPassed now t other or_at target low
HasPassed-kept w now other keeps latch held t or_at target low passed page node leaf lower =
    let before = keeps.back page node (record { is = leaf.is; linked = leaf.linked }) leaf.leaf in
    let alike = before.2 in
    let was : IsLeaf w t page before.0 = record { is = before.1.is; of = record { file = sym alike.file ∙ leaf.of.file; index = sym alike.index ∙ leaf.of.index }; leaf = sym alike.leaf ∙ leaf.leaf; linked = before.1.linked } in
    ⊎_elim
    (λ past. inl (ap (λ high. is_past high target) alike.high ∙ past))
    (λ (latched, clear).
    let still = held page before.0 latched before.1 in
    let same : node ≡ before.0 = one_node now page before.0 node still.is leaf.is in
    inr (latch page ∙ latched, subst (λ (v : NodeValue). AllPass (is_ahead or_at target) (pairs_in v)) (sym same) clear))
    (passed page before.0 was (subst (λ bound. IsLower bound low) alike.low lower))

-- a call that leaves links and the pages of others
pub record LeavesLinks (op : ℕ) (w now : World) : Type 0 where
  pub apart : IsApart now
  pub links : KeepsLinks w now
  pub latch : (other page : ℕ) → (other ≡ op → ⊥) → has_latch other page now ≡ has_latch other page w
  pub own : (other page : ℕ) → (other ≡ op → ⊥) → has_own other page now ≡ has_own other page w
  pub fresh : (other page : ℕ) → (other ≡ op → ⊥) → has_fresh other page now ≡ has_fresh other page w
  pub held : (other page : ℕ) (node : NodeValue) → (other ≡ op → ⊥) → has_latch other page w ≡ true → IsReached w page node → IsReached now page node
  pub blank : (other page : ℕ) → (other ≡ op → ⊥) → has_fresh other page w ≡ true → page_at now page ≡ page_at w page
  pub defined : (other page : ℕ) (def : DefinitionValue) → (other ≡ op → ⊥) → has_latch other page w ≡ true → page_at w page ≡ Defines def → page_at now page ≡ Defines def

pub IsStep-from_links : (op : ℕ) (w now : World) → LeavesLinks op w now → IsStep op w now
IsStep-from_links op w now leaves = record {
  apart = leaves.apart;
  at = KeepsAt-from_links w now leaves.links;
  levels = leaves.links.levels;
  tree = λ at t pages tree. (pages, IsTree-kept w now at t pages leaves.links tree);
  latch = leaves.latch;
  own = leaves.own;
  fresh = leaves.fresh;
  held = leaves.held;
  blank = leaves.blank;
  defined = leaves.defined;
  passed = λ other t or_at target low differ. HasPassed-kept w now other leaves.links (λ page. leaves.latch other page differ) (λ page node. leaves.held other page node differ) t or_at target low;
  left = λ other t or_at target low differ. HasPassedLeft-kept w now other leaves.links (λ page. leaves.latch other page differ) (λ page node. leaves.held other page node differ) t or_at target low;
}

-- where all pages stay, links do
pub KeepsLinks-same : (w now : World) → ((page : ℕ) → page_at now page ≡ page_at w page) → ((page : ℕ) (node : NodeValue) → page_at w page ≡ Holds node → is_fresh page now ≡ is_fresh page w) → KeepsLinks w now
KeepsLinks-same w now same fresh = record {
  onward = λ page node reached. (node, record { is = same page ∙ reached.is; linked = fresh page node reached.is ∙ reached.linked }, IsAlike-same node);
  back = λ page node reached leaf. (node, before page node reached, IsAlike-same node);
  inner = λ page node reached inner at t leaves tree of. let was = before page node reached in tree.roles page node was.is of was.linked;
  even = λ page node reached inner at t leaves tree of. let was = before page node reached in tree.levels page node was.is of was.linked;
  levels = KeepsLevels-same w now (λ page node is. same page ∙ is);
  named = named_kept w now (λ page def is. same page ∙ is);
}
  where
    before : (page : ℕ) (node : NodeValue) → IsReached now page node → IsReached w page node
    before page node reached =
        let is : page_at w page ≡ Holds node = sym (same page) ∙ reached.is in
        record { is = is; linked = sym (fresh page node is) ∙ reached.linked }

pub LeavesLinks-latches : (op : ℕ) (w now : World) → IsApart w → ChangesLatches op w now → LeavesLinks op w now
LeavesLinks-latches op w now apart changes =
    let same : (page : ℕ) → page_at now page ≡ page_at w page = λ page. ap (λ pages. page_at (record w { pages = pages }) page) changes.pages in
    let linked : (page : ℕ) → is_fresh page now ≡ is_fresh page w = λ page. ap (λ fresh. is_fresh page (record w { fresh = fresh })) changes.fresh in
    record {
      apart = changes.apart apart;
      links = KeepsLinks-same w now same (λ page node is. linked page);
      latch = changes.latch;
      own = changes.own;
      fresh = λ other page differ. ap (λ fresh. has_fresh other page (record w { fresh = fresh })) changes.fresh;
      held = λ other page node differ latched reached. record { is = same page ∙ reached.is; linked = linked page ∙ reached.linked };
      blank = λ other page differ mine. same page;
      defined = λ other page def differ latched is. same page ∙ is;
    }

pub IsStep-latches : (op : ℕ) (w now : World) → IsApart w → ChangesLatches op w now → IsStep op w now
IsStep-latches op w now apart changes = IsStep-from_links op w now (LeavesLinks-latches op w now apart changes)

pub LeavesLinks-with_fresh : (op : ℕ) (w : World) → IsApart w → LeavesLinks op w (with_fresh op w)
LeavesLinks-with_fresh op w apart =
    record {
      apart = IsApart-with_fresh op w apart;
      links = KeepsLinks-same w (with_fresh op w) (page_at-with_fresh op w) (λ page node is. is_fresh-with_fresh op w page (page_within w page node is));
      latch = λ other page differ. refl;
      own = λ other page differ. refl;
      fresh = has_fresh-with_fresh_other op w;
      held = λ other page node differ latched reached. record { is = page_at-with_fresh op w page ∙ reached.is; linked = is_fresh-with_fresh op w page (page_within w page node reached.is) ∙ reached.linked };
      blank = λ other page differ mine. page_at-with_fresh op w page;
      defined = λ other page def differ latched is. page_at-with_fresh op w page ∙ is;
    }

pub IsStep-with_fresh : (op : ℕ) (w : World) → IsApart w → IsStep op w (with_fresh op w)
IsStep-with_fresh op w apart = IsStep-from_links op w (with_fresh op w) (LeavesLinks-with_fresh op w apart)
