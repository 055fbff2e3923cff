-- A page posted to an inner node, and a new root written: links stay.
use Rattle.std.proofs.Common.{◌≡◌, ℕ, suc, Bool, true, false, cond, List, [], ◌∷◌, refl, sym, ap, ◌∙◌, arith, subst, Some}
use Rattle.std.specs.List.{All}
use Rattle.std.proofs.lemmas.Bool.{cond-false}
use Rattle.std.proofs.lemmas.List.Elements.{All-cons, All-head, All-tail}
use Rattle.ct_definitions.specs.Pairs.{Pair}
use Rattle.ct_node.specs.Nodes.{Entry, NodeValue, with_entry}
use Rattle.ct_node.specs.Worlds.{World, IsLevel, is_fresh, edited, IsBelow, PostsChild, WritesRoot}
use Rattle.ct_node.proofs.Orders.{below, not_above}
use Rattle.ct_tree_laws.specs.Trees.{Tree, IsOf, IsAt, IsInner, IsInRole, IsEven, IsApart}
use Rattle.ct_tree_laws.proofs.Steps.{LeavesLinks}
use Rattle.ct_tree_laws.proofs.Levels.{level_unique, KeepsFirst}
use Rattle.ct_tree_laws.proofs.Edits.{StaysEven, LeavesLinks-held, LeavesLinks-written, IsAlike-entries}

All-with_entry : (P : Entry → Type 0) (new : Entry) (entries : List Entry) → P new → All P entries → All P (with_entry new entries)
All-with_entry P new [] here all = All-cons P new [] here all
All-with_entry P new (entry ∷ entries) here all = by_test (below new.pair entry.pair) (All-with_entry P new entries here (All-tail P entry entries all))
  where
    by_test : (test : Bool) → All P (with_entry new entries) → All P (cond test (new ∷ entry ∷ entries) (entry ∷ with_entry new entries))
    by_test true rest = All-cons P new (entry ∷ entries) here all
    by_test false rest = All-cons P entry (with_entry new entries) (All-head P entry entries all) rest

-- a node that links reach, and that begins at a pair
pub below_at : (w : World) (t : Tree) (child : ℕ) (low : Pair) (node other : NodeValue) → IsBelow child low node other w → IsOf t node → node.key_len ≡ t.key_len → IsAt w t other.leaf (Some low) child
below_at w t child low node other there of key_len = record {
  node = other;
  is = there.is;
  of = record { file = there.file ∙ of.file; index = there.index ∙ of.index };
  key_len = there.key_len ∙ key_len;
  kind = refl;
  from = there.from;
  linked = there.linked;
}

-- an inner node leads down as before, and to one page more
posted_inner : (op page : ℕ) (new : NodeValue) (w : World) (t : Tree) (posts : PostsChild op page new w) → IsOf t posts.node → IsInRole w t posts.node → IsInner w t new
posted_inner op page new w t posts of role =
    let node = posts.node in
    let inner = role.inner posts.inner in
    let entry : Entry = record { pair = posts.low; child = posts.child } in
    let one : posts.first ≡ inner.first = (let both : posts.first ∷ posts.rest ≡ inner.first ∷ inner.rest = sym posts.entries ∙ inner.is in cc) in
    let after : below posts.low inner.first.pair ≡ false = not_above inner.first.pair posts.low (subst (λ (e : Entry). below e.pair posts.low ≡ true) one posts.above) in
    let P : Entry → Type 0 = λ e. (leaf : Bool) × IsAt w t leaf (Some e.pair) e.child in
    subst (IsInner w t) (sym posts.made) (record {
      first = inner.first;
      rest = with_entry entry inner.rest;
      is = ap (with_entry entry) inner.is ∙ cond-false (below posts.low inner.first.pair) (entry ∷ inner.first ∷ inner.rest) (inner.first ∷ with_entry entry inner.rest) after;
      begins = inner.begins;
      least = inner.least;
      others = All-with_entry (λ (e : Entry). (leaf : Bool) × IsAt w t leaf (Some e.pair) e.child) entry inner.rest (posts.below.leaf, below_at w t posts.child posts.low node posts.below posts.there of role.key_len) inner.others;
    })

-- the page that is posted comes behind the first one
posted_first : (op page : ℕ) (new : NodeValue) (w : World) (posts : PostsChild op page new w) → KeepsFirst posts.node new
posted_first op page new w posts = subst (KeepsFirst posts.node) (sym posts.made) (record { leaf = refl; first = behind })
  where
    behind : posts.node.leaf ≡ false → (first : Entry) (rest : List Entry) → posts.node.entries ≡ first ∷ rest → (next : Entry) × (more : List Entry) × (with_entry (record { pair = posts.low; child = posts.child }) posts.node.entries ≡ next ∷ more) × (next.child ≡ first.child)
    behind inner first rest is =
        let entry : Entry = record { pair = posts.low; child = posts.child } in
        let one : posts.first ≡ first = (let both : posts.first ∷ posts.rest ≡ first ∷ rest = sym posts.entries ∙ is in cc) in
        let after : below posts.low first.pair ≡ false = not_above first.pair posts.low (subst (λ (e : Entry). below e.pair posts.low ≡ true) one posts.above) in
        (first, with_entry entry rest, ap (with_entry entry) is ∙ cond-false (below posts.low first.pair) (entry ∷ first ∷ rest) (first ∷ with_entry entry rest) after, refl)

-- and stands one level below the node, as all others do
posted_even : (op page : ℕ) (new : NodeValue) (w : World) (posts : PostsChild op page new w) → StaysEven w page posts.node new
posted_even op page new w posts inner level at even =
    let leads = even.below posts.inner in
    let same : level ≡ suc posts.level.0 = level_unique w level (suc posts.level.0) page at posts.level.1 in
    let lower : posts.level.0 ≡ leads.0 = omega (arith, same, leads.1) in
    let entry : Entry = record { pair = posts.low; child = posts.child } in
    subst (IsEven w level) (sym posts.made) (record {
      right = even.right;
      below = λ _. (leads.0, leads.1, All-with_entry (λ (e : Entry). IsLevel w leads.0 e.child) entry posts.node.entries (subst (λ n. IsLevel w n posts.child) lower posts.level.2) leads.2);
    })

pub LeavesLinks-posts : (op page : ℕ) (new : NodeValue) (w : World) → IsApart w → PostsChild op page new w → LeavesLinks op w (edited op page new w)
LeavesLinks-posts op page new w apart posts =
    LeavesLinks-held op page posts.node new w apart posts.held (IsAlike-entries posts.node new (with_entry (record { pair = posts.low; child = posts.child }) posts.node.entries) posts.sound posts.made) (posted_first op page new w posts) (posted_even op page new w posts) (λ inner t of role. posted_inner op page new w t posts of role)

pub LeavesLinks-crowns : (op page : ℕ) (new : NodeValue) (w : World) → IsApart w → WritesRoot op page new w → LeavesLinks op w (edited op page new w)
LeavesLinks-crowns op page new w apart writes = LeavesLinks-written op page new w apart writes.blank writes.mine (ap (λ p. is_fresh p w) writes.right ∙ apart.zero)
