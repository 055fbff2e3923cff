-- A turn that answers More waits for the pages or goes on, by what its calls have told.
use Rattle.std.proofs.Common.{◌≡◌, ℕ, ◌+◌, ◌<◌, ◌&&◌, eqb, List, [], ◌∷◌, length, cond, Bool, true, false, not, nat_lt, Option, Some, None, is_some, refl, sym, ap, ◌∙◌, arith, subst, inl, inr, ⊎_elim, ◌⊎◌}
use Rattle.std.specs.Prelude.{slice_set}
use Rattle.std.proofs.lemmas.Bool.{false≢true, eqb-false, ltb-false, lt-ltb, not-true, and_parts}
use Rattle.ct_disk.specs.declared.turn.Turn.{Turn}
use Rattle.ct_disk.specs.declared.turn.Turn.TheVariants.{Done, More, Busy, Refused}
use Rattle.ct_latch.specs.declared.hold.Hold.{Hold}
use Rattle.ct_node.specs.Turns.{LeavesLess, After}
use Rattle.ct_node.specs.declared.target.Place.{Place}
use Rattle.ct_node.specs.declared.target.Place.TheVariants.{Right, Down}
use Rattle.ct_node.specs.Nodes.{NodeValue, Entry, IsNode, capacity_of, with_entry}
use Rattle.ct_node.specs.declared.root.Root.{Root}
use Rattle.ct_tree_laws.specs.declared.rise.Separator.{Separator}
use Rattle.ct_node.specs.Worlds.{World, Holds, with_holds, edited, rooted}
use Rattle.ct_tree_laws.specs.declared.walk.Walk.{Walk}
use Rattle.ct_tree_laws.specs.declared.walk.Stage.{Stage}
use Rattle.ct_tree_laws.specs.declared.walk.Stage.TheVariants as stage
use Rattle.ct_tree_laws.specs.declared.rise.Rise.TheVariants as rise
use Rattle.ct_tree_laws.specs.Stands.{node_over}
use Rattle.ct_tree_laws.proofs.Capacities.{capacity_four}
use Rattle.ct_definitions.specs.Pairs.{Pair}
use Rattle.ct_node.specs.declared.target.Target.TheVariants.{At}
use Rattle.ct_node.specs.Roles.{begins_at_low}
use Rattle.ct_tree.specs.Answers.{is_done, is_above_for, answer_with}
use Rattle.ct_tree.specs.Rules.{Visits, IsOneTurn, IsTurned, IsRightOf, IsDownOf, GoesToward, GoesUp, is_full, Writes, NamesRoot, Posts, leaves_room, GivesWay, leads_to}
use Rattle.ct_tree.proofs.Done.{after_done}

-- the first call of a turn was not done
pub waits_first : (turn : Turn (Unit {0})) (walk : Walk) (w now : World) (before after : ℕ) (at : Stage) → is_done turn ≡ false → now ≡ w → LeavesLess turn before after → IsTurned turn walk w now before after at at
waits_first (Done answer) walk w now before after at other same less = inl refl
waits_first More walk w now before after at other same less = inl (record { same = refl; world = same; less = less })
waits_first (Busy op) walk w now before after at other same less = (inl refl, ap (λ (v : World). v.pages) same)
waits_first (Refused fault) walk w now before after at other same less = (refl, same)

-- what is told beside an answer
pub rule_with : {T : Type 0} (turn : Turn (Unit {0})) (told : T) (walk : Walk) (w now : World) (before after : ℕ) (from to : Stage) → IsTurned turn walk w now before after from to → IsTurned (answer_with turn told) walk w now before after from to
rule_with (Done answer) told walk w now before after from to is = is
rule_with More told walk w now before after from to is = is
rule_with (Busy op) told walk w now before after from to is = is
rule_with (Refused fault) told walk w now before after from to is = is

-- pages that stay
pub visits : (w now : World) → now ≡ w → Visits w now
visits w now same = ap (λ (v : World). v.pages) same

pub visits_free : (holds : List Hold) (w mid now : World) → mid ≡ w → now ≡ with_holds holds mid → Visits w now
visits_free holds w mid now same freed = ap (λ (v : World). v.pages) freed ∙ ap (λ (v : World). v.pages) same

-- a page that a walk goes on to is another one
pub not_itself_right : (page next : ℕ) (place : Place) → leads_to page place ≡ false → place ≡ Right next → next ≡ page → ⊥
not_itself_right page next place other is one = eqb-false next page (ap (leads_to page) (sym is) ∙ other) one

pub not_itself_down : (page next : ℕ) (place : Place) → leads_to page place ≡ false → place ≡ Down next → next ≡ page → ⊥
not_itself_down page next place other is one = eqb-false next page (ap (leads_to page) (sym is) ∙ other) one

-- the pages after an edit that was done, after a look, and after a latch was given back
pub written : (turn : Turn (Unit {0})) (op page : ℕ) (node : NodeValue) (w mid now : World) → is_done turn ≡ true → mid ≡ w → After turn (λ _. edited op page node mid) mid now → Writes page node w now
written turn op page node w mid now done same after =
    ap (λ (v : World). v.pages) (after_done turn (λ _. edited op page node mid) mid now done after) ∙ ap (λ (v : World). slice_set v.pages page (Holds node)) same

pub written_free : (turn : Turn (Unit {0})) (op page : ℕ) (node new : NodeValue) (holds : List Hold) (w mid edit now : World) → is_done turn ≡ true → mid ≡ w → new ≡ node → After turn (λ _. edited op page new mid) mid edit → now ≡ with_holds holds edit → Writes page node w now
written_free turn op page node new holds w mid edit now done same is after freed =
    ap (λ (v : World). v.pages) freed ∙ written turn op page new w mid edit done same after ∙ ap (λ (v : NodeValue). slice_set w.pages page (Holds v)) is

-- a separator that stands there, and one that is posted
pub posts_none : (page : ℕ) (next : Option Separator) (w now : World) → Visits w now → Posts page next w now
posts_none page None w now same = inl same
posts_none page (Some next) w now same = inl same

pub posts_one : (page : ℕ) (next : Option Separator) (node : NodeValue) (w now : World) → leaves_room next node ≡ true → node.leaf ≡ false → Writes page node w now → Posts page next w now
posts_one page None node w now room inner wrote = inr (node, inner, wrote)
posts_one page (Some next) node w now room inner wrote = inr (node, inner, ap not room, wrote)

-- a half of a split is left with room
pub room_some : (next : Option Separator) (node : NodeValue) → leaves_room next node ≡ false → (is_some next ≡ true) × (nat_lt (length node.entries) (capacity_of node.key_len node.leaf) ≡ false)
room_some None node no_room = absurd (false≢true (sym no_room))
room_some (Some next) node no_room = (refl, no_room)

pub edited_pages : (turn : Turn (Unit {0})) (op page : ℕ) (node : NodeValue) (holds : List Hold) (w edit now : World) → is_done turn ≡ true → After turn (λ _. edited op page node w) w edit → now ≡ with_holds holds edit → Writes page node w now
edited_pages turn op page node holds w edit now done after freed = ap (λ (v : World). v.pages) freed ∙ ap (λ (v : World). v.pages) (after_done turn (λ _. edited op page node w) w edit done after)

pub named_pages : (turn : Turn (Unit {0})) (op : ℕ) (at : Root) (page : ℕ) (holds : List Hold) (w named now : World) → is_done turn ≡ true → After turn (λ _. rooted op at page w) w named → now ≡ with_holds holds named → NamesRoot at page w now
named_pages turn op at page holds w named now done after freed = ap (λ (v : World). v.pages) freed ∙ ap (λ (v : World). v.pages) (after_done turn (λ _. rooted op at page w) w named done after)

-- a walk to a separator ends, or goes on to the right or down
module _ (walk : Walk) (s : Separator) (low : Pair) (page next : ℕ) (above : Option ℕ) (w : World) (to : Stage) (same : low ≡ s.low) (differ : next ≡ page → ⊥) where
  abbrev Ends : Option ℕ → Pair → Type 0
  Ends last bound = (to ≡ stage.Start) ⊎ GoesToward (record { low = bound; child = s.child; left = s.left }) next last to

  pub goes_right : IsRightOf w (At s.low) page next → Ends above low → GoesUp walk w w s (rise.Down page above) to
  goes_right leads goes = (refl, ⊎_elim (λ is. inl is) (λ toward. inr (inl (next, leads, differ, toward))) (subst (Ends above) same goes))

  pub goes_down : IsDownOf w (At s.low) page next → Ends (Some page) low → GoesUp walk w w s (rise.Down page above) to
  goes_down leads goes = (refl, ⊎_elim (λ is. inl is) (λ toward. inr (inr (next, leads, differ, toward))) (subst (Ends (Some page)) same goes))

pub inner_of : (node : NodeValue) (pair : Pair) → is_above_for node pair ≡ true → node.leaf ≡ false
inner_of node pair is = not-true node.leaf (and_parts (not node.leaf) (eqb node.key_len (length pair.key)) (and_parts (not node.leaf && eqb node.key_len (length pair.key)) (begins_at_low node) is).0).0

length-with_entry : (new : Entry) (entries : List Entry) → length (with_entry new entries) ≡ length entries + 1
length-with_entry new [] = refl
length-with_entry new (entry ∷ entries) = by_test _ (length-with_entry new entries)
  where
    by_test : (test : Bool) → length (with_entry new entries) ≡ length entries + 1 → length (cond test (new ∷ entry ∷ entries) (entry ∷ with_entry new entries)) ≡ length (entry ∷ entries) + 1
    by_test true rest = omega arith
    by_test false rest = omega (arith, rest)

-- a node that took one more entry had not room for two
pub posted_not_roomy : (node new : NodeValue) (entry : Entry) → new ≡ record node { entries = with_entry entry node.entries } → nat_lt (length new.entries) (capacity_of new.key_len new.leaf) ≡ false → length node.entries + 1 < capacity_of node.key_len node.leaf → ⊥
posted_not_roomy node new entry made packed room =
    let longer : length new.entries ≡ length node.entries + 1 = ap (λ (v : NodeValue). length v.entries) made ∙ length-with_entry entry node.entries in
    let most = ltb-false (length new.entries) (capacity_of new.key_len new.leaf) packed in
    let same : capacity_of new.key_len new.leaf ≡ capacity_of node.key_len node.leaf = ap (λ (v : NodeValue). capacity_of v.key_len v.leaf) made in
    omega arith

-- a new root has two entries
pub crown_roomy : (node over new : NodeValue) (entry : Entry) (page : ℕ) → over ≡ node_over node page → new ≡ record over { entries = with_entry entry over.entries } → IsNode new → is_full new ≡ false
crown_roomy node over new entry page is made sound =
    let longer : length new.entries ≡ length over.entries + 1 = ap (λ (v : NodeValue). length v.entries) made ∙ length-with_entry entry over.entries in
    let one : length over.entries ≡ 1 = ap (λ (v : NodeValue). length v.entries) is in
    let four = capacity_four new.key_len new.leaf sound.short_key in
    ap not (lt-ltb (length new.entries) (capacity_of new.key_len new.leaf) (omega arith))

-- a turn of a search that may have given way is one turn
pub way_turns : {T : Type 0} (turn : Turn T) (walk : Walk) (w mid now : World) (before middle after : ℕ) (from between to : Stage) → IsTurned turn walk w mid before middle from between → GivesWay turn mid now middle after between to → IsTurned turn walk w now before after from to
way_turns (Done answer) walk w mid now before middle after from between to rule way = ⊎_elim (λ is. inl (way ∙ is)) (λ is. inr (way ∙ is)) rule
way_turns More walk w mid now before middle after from between to rule way =
    subst (λ (v : World). IsOneTurn walk w v before after from to) (sym way.1)
    (subst (λ (n : ℕ). IsOneTurn walk w mid before n from to) (sym way.2)
    (subst (λ (at : Stage). IsOneTurn walk w mid before middle from at) (sym way.0) rule))
way_turns (Busy op) walk w mid now before middle after from between to rule way = (inr way.0, way.1 ∙ rule.1)
way_turns (Refused fault) walk w mid now before middle after from between to rule way = (way.0 ∙ rule.0, way.1 ∙ rule.1)
