-- The page of the posting of a separator after a turn, and the page above that it remembers.
use Rattle.std.proofs.Common.{◌≡◌, ℕ, Bool, false, refl, sym, ap, ◌∙◌, subst, ⊎_elim, List, length, Option, Some, None}
use Rattle.std.specs.Prelude.{slice_get, slice_index_or}
use Rattle.ct_node.specs.declared.reach.Reach.{Reach}
use Rattle.ct_node.specs.declared.target.Target.TheVariants.{At}
use Rattle.ct_node.specs.Nodes.{NodeValue, pairs_in}
use Rattle.ct_node.specs.Halves.{middle_of, upper_half, lower_half}
use Rattle.ct_node.specs.Reaches.{reach_root, reach_right, reach_half}
use Rattle.ct_node.specs.Worlds.{World, PageValue, Blank, Holds, page_at}
use Rattle.ct_tree_laws.specs.declared.walk.Walk.{Walk}
use Rattle.ct_tree_laws.specs.declared.walk.Stage.{Stage}
use Rattle.ct_tree_laws.specs.declared.walk.Stage.TheVariants as stage
use Rattle.ct_tree_laws.specs.declared.rise.Separator.{Separator}
use Rattle.ct_tree_laws.specs.declared.rise.Rise.{Rise}
use Rattle.ct_tree_laws.specs.declared.rise.Rise.TheVariants as rise
use Rattle.ct_tree_laws.specs.Trees.{IsAt}
use Rattle.ct_tree_laws.specs.Stands.{Stands, KeepsAt, after_post}
use Rattle.ct_tree_laws.specs.Reached.{page_in, over_in, over_of, IsReachedIn, IsReachedAt}
use Rattle.ct_tree_laws.proofs.Chains.{one_node}
use Rattle.ct_tree_laws.proofs.Pages.{page_at-edited_other}
use Rattle.ct_tree_laws.proofs.PostingTurns.{held_past}
use Rattle.ct_tree_laws.proofs.PostingCrowns.{root_left, root_at}
use Rattle.ct_tree_laws.proofs.Reaches.{kept_at, reached_root, reached_right}
use Rattle.ct_tree.specs.Moves.{looked_in}
use Rattle.ct_tree.specs.Rules.{IsRightOf, IsDownOf, IsPastOf, CutsFull, KeepsHalf, GoesUp}
use Rattle.ct_tree.specs.Roles.{HasRole, way_from, way_moved}
use Rattle.ct_tree.proofs.RolesWays.{Comes, ComesOver, no_over, by_page, comes_to, comes_here, root_comes, goes_on, part_at, comes_next_right, comes_next_down, role_at, role_held}

-- the page that is looked at in a posting is in its role
pub rise_role : (walk : Walk) (w : World) (separator : Separator) (rise : Rise) (reach : Reach) → Stands walk (stage.Post separator rise) w → IsReachedAt (page_in separator rise) reach w → HasRole (looked_in separator rise) reach w
rise_role walk w separator rise.Root reach here was = tt
rise_role walk w separator (rise.Down page above) reach here was = role_at w walk.at here.tree here.leaves here.place.1.1.0 here.place.1.1.1 reach page here.is here.place.1.1.2 was
rise_role walk w separator (rise.Above page) reach here was = tt
rise_role walk w separator (rise.Held page next) reach here was = role_at w walk.at here.tree here.leaves false here.place.1.1.0 reach page here.is here.place.1.1.1 was
rise_role walk w separator (rise.Full page) reach here was = tt
rise_role walk w separator (rise.Fresh page right) reach here was = tt
rise_role walk w separator (rise.Split page right) reach here was =
    let known = here.place.1.1.1.0 in
    role_held w walk.at here.tree here.leaves here.place.1.1.0 reach page here.is known.is known.of known.linked was
rise_role walk w separator (rise.Cut page right) reach here was =
    let known = here.place.1.1.1.0 in
    role_held w walk.at here.tree here.leaves here.place.1.1.0 reach page here.is known.is known.of known.linked was
rise_role walk w separator rise.Again reach here was = tt
rise_role walk w separator rise.Named reach here was = tt
rise_role walk w separator rise.Grow reach here was = tt
rise_role walk w separator (rise.Crown root) reach here was = role_at w walk.at here.tree here.leaves here.is.root.0 None reach separator.left here.is (root_at walk separator w here.tree here.leaves here.apart here.is here.place.1.1) was
rise_role walk w separator (rise.Crowned root) reach here was = tt

-- the way on, where two pages above are known or none is
way_same : (above : Option ℕ) (over on : Reach) → way_moved above above over on ≡ on
way_same None over on = refl
way_same (Some above) over on = refl

way_to : (above : Option ℕ) (page : ℕ) (over on : Reach) → way_moved above (Some page) over on ≡ on
way_to None page over on = refl
way_to (Some above) page over on = refl

-- on the way to the separator
module _ (walk : Walk) (w now : World) (separator : Separator) (page : ℕ) (above : Option ℕ) (reach over : Reach) (here : Stands walk (stage.Post separator (rise.Down page above)) w) (keeps : KeepsAt w now) (was : IsReachedAt (Some page) reach w) where
  abbrev from_here : Stage
  from_here = stage.Post separator (rise.Down page above)

  -- to a next page, with this page above or another one
  moves : (next : ℕ) (last : Option ℕ) → way_moved above last over (way_from walk from_here (page_at w page)) ≡ way_from walk from_here (page_at w page) → IsReachedAt (Some next) (way_from walk from_here (page_at w page)) now → Comes walk w now from_here reach over (stage.Post separator (rise.Down next last))
  moves next last on is = comes_to walk w now from_here (stage.Post separator (rise.Down next last)) reach over page next refl refl (kept_at w now (Some page) reach keeps was) (λ differ. subst (λ r. IsReachedAt (Some next) r now) (sym on) is)

  right_comes : (next : ℕ) → IsRightOf w (At separator.low) page next → Comes walk w now from_here reach over (stage.Post separator (rise.Down next above))
  right_comes next leads = moves next above (way_same above over (way_from walk from_here (page_at w page)))
      (comes_next_right w now walk.at here.tree here.leaves here.place.1.1.0 here.place.1.1.1 page next (way_from walk from_here) here.is here.place.1.1.2 keeps (At separator.low) (λ node. refl) leads)

  down_comes : (next : ℕ) → IsDownOf w (At separator.low) page next → Comes walk w now from_here reach over (stage.Post separator (rise.Down next (Some page)))
  down_comes next leads = moves next (Some page) (way_to above page over (way_from walk from_here (page_at w page)))
      (comes_next_down w now walk.at here.tree here.leaves here.place.1.1.0 here.place.1.1.1 page next (way_from walk from_here) here.is here.place.1.1.2 keeps (At separator.low) (λ node. refl) leads)

  -- up to the page above, or to this one
  up_comes : (last : ℕ) → above ≡ Some last → IsReachedAt above over w → Comes walk w now from_here reach over (stage.Post separator (rise.Above last))
  up_comes last is known = comes_to walk w now from_here (stage.Post separator (rise.Above last)) reach over page last refl refl (kept_at w now (Some page) reach keeps was)
      (λ differ. subst (λ a. IsReachedAt (Some last) (way_moved a None over (way_from walk from_here (page_at w page))) now) (sym is) (kept_at w now (Some last) over keeps (subst (λ a. IsReachedAt a over w) is known)))

  here_comes : (last : ℕ) → Some page ≡ Some last → Comes walk w now from_here reach over (stage.Post separator (rise.Above last))
  here_comes last is =
      let one : page ≡ last = cc in
      comes_to walk w now from_here (stage.Post separator (rise.Above last)) reach over page last refl refl (kept_at w now (Some page) reach keeps was) (λ differ. absurd (differ one))

  -- the page above that is remembered
  right_over : (next : ℕ) → IsReachedAt above over w → ComesOver now from_here reach over (stage.Post separator (rise.Down next above))
  right_over next known last is = by_page now page next last over _ (λ one. kept_last) (λ differ. by_page now page last last reach over (λ one. kept_at w now (Some last) reach keeps (subst (λ p. IsReachedAt (Some p) reach w) one was)) (λ apart. kept_last))
    where
      kept_last : IsReachedAt (Some last) over now
      kept_last = kept_at w now (Some last) over keeps (subst (λ a. IsReachedAt a over w) is known)

  down_over : (next : ℕ) → (next ≡ page → ⊥) → ComesOver now from_here reach over (stage.Post separator (rise.Down next (Some page)))
  down_over next other last is =
      let one : page ≡ last = cc in
      by_page now page next last over _ (λ same. absurd (other (sym same))) (λ differ. by_page now page last last reach over (λ equal. kept_at w now (Some last) reach keeps (subst (λ p. IsReachedAt (Some p) reach w) one was)) (λ apart. absurd (apart one)))

-- from a node above, to the right
past_comes : (walk : Walk) (w now : World) (separator : Separator) (page : ℕ) (next : Option Separator) (right : ℕ) (reach over : Reach) → Stands walk (stage.Post separator (rise.Held page next)) w → KeepsAt w now → IsReachedAt (Some page) reach w → IsPastOf w separator.low page right → Comes walk w now (stage.Post separator (rise.Held page next)) reach over (stage.Post separator (rise.Above right))
past_comes walk w now separator page next right reach over here keeps was (node, is, outside, one) =
    let part = part_at w walk.at here.tree here.leaves false here.place.1.1.0 page node here.is here.place.1.1.1 is in
    let reached : IsReachedIn w here.tree (reach_right node) right = subst (IsReachedIn w here.tree (reach_right node)) (sym one) (reached_right w here.tree node (At separator.low) part.of part.role (held_past walk separator page next node w is outside here)) in
    comes_to walk w now (stage.Post separator (rise.Held page next)) (stage.Post separator (rise.Above right)) reach over page right refl refl (kept_at w now (Some page) reach keeps was)
    (λ differ. goes_on w now walk.at here.tree here.leaves false here.place.1.1.0 page right (way_from walk (stage.Post separator (rise.Held page next))) here.is here.place.1.1.1 keeps node (reach_right node) is refl reached)

-- the right half of a cut stands as the cut left it
right_half : (walk : Walk) (w now : World) (separator : Separator) (page right : ℕ) (leaf : Bool) (next : Separator) (node : NodeValue) → Stands walk (stage.Post separator (rise.Cut page right)) w → Stands walk (stage.Post separator (rise.Held right (Some next))) now → CutsFull leaf page right w now → page_at w page ≡ Holds node → next.child ≡ right → slice_get (pairs_in node) (middle_of node) ≡ Some next.low → (page ≡ right → ⊥) → IsReachedAt (Some right) (reach_half node) now
right_half walk w now separator page right leaf next node here there cuts is child low differ =
    let half = there.place.1.4.0 in
    let at : IsAt now there.tree half.0 (Some next.low) right = subst (IsAt now there.tree half.0 (Some next.low)) child half.1 in
    let stays : page_at now right ≡ page_at w right = ap (λ (pages : List PageValue). slice_index_or pages right Blank) cuts.5 ∙ page_at-edited_other walk.op page (lower_half right cuts.0) w right (λ one. differ (sym one)) in
    let known = here.place.1.1 in
    let same : known.0 ≡ node = one_node w page node known.0 is known.1.0.is in
    let holds : page_at now right ≡ Holds (upper_half node) = stays ∙ known.2 ∙ ap (λ (v : NodeValue). Holds (upper_half v)) same in
    let one : at.node ≡ upper_half node = one_node now right (upper_half node) at.node holds at.is in (
      there.tree,
      record {
        leaf = half.0;
        at = subst (λ bound. IsAt now there.tree half.0 bound right) (sym low) at;
        kind = sym (ap (λ (v : NodeValue). v.leaf) one) ∙ at.kind;
        file = sym (ap (λ (v : NodeValue). v.file) one) ∙ at.of.file;
        index = sym (ap (λ (v : NodeValue). v.index) one) ∙ at.of.index;
        key_len = sym (ap (λ (v : NodeValue). v.key_len) one) ∙ at.key_len;
      },
    )

half_comes : (walk : Walk) (w now : World) (separator : Separator) (page right : ℕ) (leaf : Bool) (to : Stage) (reach over : Reach) → Stands walk (stage.Post separator (rise.Cut page right)) w → Stands walk to now → KeepsAt w now → IsReachedAt (Some page) reach w → CutsFull leaf page right w now → KeepsHalf w separator page right to → Comes walk w now (stage.Post separator (rise.Cut page right)) reach over to
half_comes walk w now separator page right leaf to reach over here there keeps was cuts (half, next, node, which, child, is, low, one) =
    subst (Comes walk w now (stage.Post separator (rise.Cut page right)) reach over) (sym one)
    (comes_to walk w now (stage.Post separator (rise.Cut page right)) (stage.Post separator (rise.Held half (Some next))) reach over page half refl refl (kept_at w now (Some page) reach keeps was)
    (λ differ. subst (λ value. IsReachedAt (Some half) (way_from walk (stage.Post separator (rise.Cut page right)) value) now) (sym is) (⊎_elim (λ left. absurd (differ (sym left))) (λ same. to_right same differ) which)))
  where
    to_right : half ≡ right → (page ≡ half → ⊥) → IsReachedAt (Some half) (reach_half node) now
    to_right same differ =
        let after = subst (λ at. Stands walk at now) (one ∙ ap (λ h. stage.Post separator (rise.Held h (Some next))) same) there in
        subst (λ h. IsReachedAt (Some h) (reach_half node) now) (sym same) (right_half walk w now separator page right leaf next node here after cuts is child low (λ equal. differ (equal ∙ sym same)))

-- the old root, which is still the root
left_comes : (walk : Walk) (now : World) (separator : Separator) → Stands walk (stage.Post separator rise.Grow) now → IsReachedAt (Some separator.left) (reach_root walk.at walk.target) now
left_comes walk now separator there =
    (there.tree, subst (IsReachedIn now there.tree (reach_root walk.at walk.target)) (root_left walk separator now there.tree there.leaves there.apart there.is there.place.1.1) (reached_root now walk.at there.tree there.leaves walk.target there.is there.key))

posted_comes : (walk : Walk) (w now : World) (from : Stage) (reach over : Reach) (next : Option Separator) → Comes walk w now from reach over (after_post next)
posted_comes walk w now from reach over None = tt
posted_comes walk w now from reach over (Some next) = tt

posted_over : (next : Option Separator) → over_of (after_post next) ≡ None
posted_over None = refl
posted_over (Some next) = refl

-- the page of a posting stands as it was reached after a turn
pub rise_comes : (walk : Walk) (w now : World) (separator : Separator) (rise : Rise) (to : Stage) (reach over : Reach) → Stands walk (stage.Post separator rise) w → Stands walk to now → KeepsAt w now → IsReachedAt (page_in separator rise) reach w → IsReachedAt (over_in rise) over w → GoesUp walk w now separator rise to → Comes walk w now (stage.Post separator rise) reach over to
rise_comes walk w now separator rise.Root to reach over here there keeps was known (same, (page, root, goes)) =
    ⊎_elim (λ is. subst (Comes walk w now (stage.Post separator rise.Root) reach over) (sym is) tt)
    (λ is. subst (Comes walk w now (stage.Post separator rise.Root) reach over) (sym is) (root_comes walk w now (stage.Post separator rise.Root) page here keeps root)) goes
rise_comes walk w now separator (rise.Down page above) to reach over here there keeps was known (same, goes) =
    ⊎_elim (λ is. subst Ends (sym is) tt)
    (λ on. ⊎_elim
    (λ (next, leads, differ, toward). ⊎_elim
    (λ is. subst Ends (sym is) (right_comes walk w now separator page above reach over here keeps was next leads))
    (λ (last, told, is). subst Ends (sym is) (up_comes walk w now separator page above reach over here keeps was last told known)) toward)
    (λ (next, leads, differ, toward). ⊎_elim
    (λ is. subst Ends (sym is) (down_comes walk w now separator page above reach over here keeps was next leads))
    (λ (last, told, is). subst Ends (sym is) (here_comes walk w now separator page above reach over here keeps was last told)) toward) on) goes
  where
    Ends : Stage → Type 0
    Ends = Comes walk w now (stage.Post separator (rise.Down page above)) reach over
rise_comes walk w now separator (rise.Above page) to reach over here there keeps was known (same, is) =
    subst (Comes walk w now (stage.Post separator (rise.Above page)) reach over) (sym is) (comes_here walk w now (stage.Post separator (rise.Above page)) (stage.Post separator (rise.Held page None)) reach over page refl refl (kept_at w now (Some page) reach keeps was))
rise_comes walk w now separator (rise.Held page next) to reach over here there keeps was known goes =
    ⊎_elim (λ (posts, is). subst (Comes walk w now (stage.Post separator (rise.Held page next)) reach over) (sym is) (posted_comes walk w now (stage.Post separator (rise.Held page next)) reach over next))
    (λ (same, on). ⊎_elim
    (λ (right, past, is). subst (Comes walk w now (stage.Post separator (rise.Held page next)) reach over) (sym is) (past_comes walk w now separator page next right reach over here keeps was past))
    (λ is. subst (Comes walk w now (stage.Post separator (rise.Held page next)) reach over) (sym is) (comes_here walk w now (stage.Post separator (rise.Held page next)) (stage.Post separator (rise.Full page)) reach over page refl refl (kept_at w now (Some page) reach keeps was))) on) goes
rise_comes walk w now separator (rise.Full page) to reach over here there keeps was known (more, is) =
    subst (Comes walk w now (stage.Post separator (rise.Full page)) reach over) (sym is) (comes_here walk w now (stage.Post separator (rise.Full page)) (stage.Post separator (rise.Fresh page (length w.pages))) reach over page refl refl (kept_at w now (Some page) reach keeps was))
rise_comes walk w now separator (rise.Fresh page right) to reach over here there keeps was known (same, is) =
    subst (Comes walk w now (stage.Post separator (rise.Fresh page right)) reach over) (sym is) (comes_here walk w now (stage.Post separator (rise.Fresh page right)) (stage.Post separator (rise.Split page right)) reach over page refl refl (kept_at w now (Some page) reach keeps was))
rise_comes walk w now separator (rise.Split page right) to reach over here there keeps was known (wrote, is) =
    subst (Comes walk w now (stage.Post separator (rise.Split page right)) reach over) (sym is) (comes_here walk w now (stage.Post separator (rise.Split page right)) (stage.Post separator (rise.Cut page right)) reach over page refl refl (kept_at w now (Some page) reach keeps was))
rise_comes walk w now separator (rise.Cut page right) to reach over here there keeps was known (leaf, cuts, half) = half_comes walk w now separator page right leaf to reach over here there keeps was cuts half
rise_comes walk w now separator rise.Again to reach over here there keeps was known (same, is) = subst (Comes walk w now (stage.Post separator rise.Again) reach over) (sym is) tt
rise_comes walk w now separator rise.Named to reach over here there keeps was known (same, (page, root, goes)) =
    ⊎_elim (λ is. subst (Comes walk w now (stage.Post separator rise.Named) reach over) (sym is) (left_comes walk now separator (subst (λ at. Stands walk at now) is there)))
    (λ is. subst (Comes walk w now (stage.Post separator rise.Named) reach over) (sym is) (root_comes walk w now (stage.Post separator rise.Named) page here keeps root)) goes
rise_comes walk w now separator rise.Grow to reach over here there keeps was known (more, is) =
    subst (Comes walk w now (stage.Post separator rise.Grow) reach over) (sym is) (comes_here walk w now (stage.Post separator rise.Grow) (stage.Post separator (rise.Crown (length w.pages))) reach over separator.left refl refl (kept_at w now (Some separator.left) reach keeps was))
rise_comes walk w now separator (rise.Crown root) to reach over here there keeps was known (wrote, is) =
    subst (Comes walk w now (stage.Post separator (rise.Crown root)) reach over) (sym is) (comes_here walk w now (stage.Post separator (rise.Crown root)) (stage.Post separator (rise.Crowned root)) reach over separator.left refl refl (kept_at w now (Some separator.left) reach keeps was))
rise_comes walk w now separator (rise.Crowned root) to reach over here there keeps was known (named, is) = subst (Comes walk w now (stage.Post separator (rise.Crowned root)) reach over) (sym is) tt

-- and so does the page above that it remembers
pub rise_over : (walk : Walk) (w now : World) (separator : Separator) (rise : Rise) (to : Stage) (reach over : Reach) → Stands walk (stage.Post separator rise) w → KeepsAt w now → IsReachedAt (page_in separator rise) reach w → IsReachedAt (over_in rise) over w → GoesUp walk w now separator rise to → ComesOver now (stage.Post separator rise) reach over to
rise_over walk w now separator rise.Root to reach over here keeps was known (same, (page, root, goes)) = no_over now (stage.Post separator rise.Root) to reach over (⊎_elim (λ is. ap over_of is) (λ is. ap over_of is) goes)
rise_over walk w now separator (rise.Down page above) to reach over here keeps was known (same, goes) =
    ⊎_elim (λ is. none (ap over_of is))
    (λ on. ⊎_elim
    (λ (next, leads, differ, toward). ⊎_elim
    (λ is. subst (ComesOver now (stage.Post separator (rise.Down page above)) reach over) (sym is) (right_over walk w now separator page above reach over here keeps was next known))
    (λ (last, told, is). none (ap over_of is)) toward)
    (λ (next, leads, differ, toward). ⊎_elim
    (λ is. subst (ComesOver now (stage.Post separator (rise.Down page above)) reach over) (sym is) (down_over walk w now separator page above reach over here keeps was next differ))
    (λ (last, told, is). none (ap over_of is)) toward) on) goes
  where
    none : over_of to ≡ None → ComesOver now (stage.Post separator (rise.Down page above)) reach over to
    none is = no_over now (stage.Post separator (rise.Down page above)) to reach over is
rise_over walk w now separator (rise.Above page) to reach over here keeps was known (same, is) = no_over now (stage.Post separator (rise.Above page)) to reach over (ap over_of is)
rise_over walk w now separator (rise.Held page next) to reach over here keeps was known goes = no_over now (stage.Post separator (rise.Held page next)) to reach over
    (⊎_elim (λ (posts, is). ap over_of is ∙ posted_over next) (λ (same, on). ⊎_elim (λ (right, past, is). ap over_of is) (λ is. ap over_of is) on) goes)
rise_over walk w now separator (rise.Full page) to reach over here keeps was known (more, is) = no_over now (stage.Post separator (rise.Full page)) to reach over (ap over_of is)
rise_over walk w now separator (rise.Fresh page right) to reach over here keeps was known (same, is) = no_over now (stage.Post separator (rise.Fresh page right)) to reach over (ap over_of is)
rise_over walk w now separator (rise.Split page right) to reach over here keeps was known (wrote, is) = no_over now (stage.Post separator (rise.Split page right)) to reach over (ap over_of is)
rise_over walk w now separator (rise.Cut page right) to reach over here keeps was known (leaf, cuts, (half, next, node, which, child, told, low, is)) = no_over now (stage.Post separator (rise.Cut page right)) to reach over (ap over_of is)
rise_over walk w now separator rise.Again to reach over here keeps was known (same, is) = no_over now (stage.Post separator rise.Again) to reach over (ap over_of is)
rise_over walk w now separator rise.Named to reach over here keeps was known (same, (page, root, goes)) = no_over now (stage.Post separator rise.Named) to reach over (⊎_elim (λ is. ap over_of is) (λ is. ap over_of is) goes)
rise_over walk w now separator rise.Grow to reach over here keeps was known (more, is) = no_over now (stage.Post separator rise.Grow) to reach over (ap over_of is)
rise_over walk w now separator (rise.Crown root) to reach over here keeps was known (wrote, is) = no_over now (stage.Post separator (rise.Crown root)) to reach over (ap over_of is)
rise_over walk w now separator (rise.Crowned root) to reach over here keeps was known (named, is) = no_over now (stage.Post separator (rise.Crowned root)) to reach over (ap over_of is)
