-- The calls of a turn one after the other, in a sound store.
use Rattle.std.proofs.Common.{◌≡◌, ℕ, Bool, true, false, List, Option, Some, None, refl, sym, ap, ◌∙◌, subst, inl, inr, ⊎_elim}
use Rattle.std.specs.Prelude.{◌⊎◌}
use Rattle.std.proofs.lemmas.Bool.{true≢false}
use Rattle.ct_disk.specs.declared.turn.Turn.{Turn}
use Rattle.ct_disk.specs.declared.turn.Turn.TheVariants.{Done, More, Busy, Refused}
use Rattle.ct_definitions.specs.Pairs.{Pair}
use Rattle.ct_node.specs.declared.root.Mark.{Mark}
use Rattle.ct_node.specs.declared.target.Target.{Target}
use Rattle.ct_node.specs.declared.target.Target.TheVariants.{At}
use Rattle.ct_node.specs.Turns.{OnDone}
use Rattle.ct_node.specs.Nodes.{NodeValue}
use Rattle.ct_node.specs.Worlds.{World, Holds, page_at, Effect, Makes, IsIn, Allowed, Meant, root_of, with_lost, no_mark}
use Rattle.ct_tree_laws.proofs.PutTurns.{held_seen}
use Rattle.ct_tree_laws.specs.declared.walk.Walk.{Walk}
use Rattle.ct_tree_laws.specs.declared.walk.Stage.{Stage}
use Rattle.ct_tree_laws.specs.declared.walk.Stage.TheVariants as stage
use Rattle.ct_tree_laws.specs.Trees.{Chain}
use Rattle.ct_tree_laws.specs.Stands.{Stands, Stepped, HasNone}
use Rattle.ct_tree_laws.proofs.SearchTurns.{ended_none}
use Rattle.ct_tree.specs.Answers.{GoesOn, TakeGoesOn, TakesKeys, TakenKeys, TellsTaken, IsTaken, TellsFound, IsFound, MayBear, is_done, answer_with}
use Rattle.ct_tree.specs.declared.roles.Ways.{Ways}
use Rattle.ct_tree.specs.Remembered.{Remembers, IsComing}
use Rattle.ct_tree.proofs.Coming.{role_come}

-- the page that a turn looks at is in its role
pub coming_of : (walk : Walk) (at : Stage) (moves : ℕ) (ways : Ways) (w : World) → Remembers walk at moves ways w → IsComing walk at ways.at w
coming_of walk at moves ways w remembers = record { stands = remembers.stands; role = role_come walk w at at ways refl remembers.stands remembers.come }

-- after a call that left the world
pub seen_first : (lost : List ℕ) (after : Type 0) (walk : Walk) (to : Stage) (Keys : World → World → Type 0) (w mid now : World) → mid ≡ w → (after × Stepped walk to (with_lost lost mid) (with_lost lost now) × Keys (with_lost lost mid) (with_lost lost now)) → after × Stepped walk to (with_lost lost w) (with_lost lost now) × Keys (with_lost lost w) (with_lost lost now)
seen_first lost after walk to Keys w mid now same is = subst (λ v. after × Stepped walk to (with_lost lost v) (with_lost lost now) × Keys (with_lost lost v) (with_lost lost now)) same is

pub stands_still : (lost : List ℕ) (walk : Walk) (at : Stage) (w mid : World) → mid ≡ w → Stands walk at (with_lost lost w) → Stands walk at (with_lost lost mid)
stands_still lost walk at w mid same stands = subst (λ v. Stands walk at (with_lost lost v)) (sym same) stands

-- the mark of an operation stays allowed where no step is made
pub may_bear_on : (first next : Mark → Effect → Type 0) (mark : Mark) (target : Target) (effect : Pair → Effect) → ((step : Mark) (one : Effect) → first step one → next step one) → MayBear first mark target effect → MayBear next mark target effect
may_bear_on first next mark target effect carry may = ⊎_elim (λ none. inl none) (λ allowed. inr (λ pair is. carry mark (effect pair) (allowed pair is))) may

-- an operation that has ended has given back what it had
pub put_given : (turn : Turn (Unit {0})) (walk : Walk) (to : Stage) (w now : World) → GoesOn turn to → Stepped walk to w now → OnDone turn (λ _. HasNone walk.op now)
put_given (Done answer) walk to w now goes stepped = ended_none walk to w now stepped goes
put_given More walk to w now goes stepped = tt
put_given (Busy op) walk to w now goes stepped = tt
put_given (Refused fault) walk to w now goes stepped = tt

pub take_given : {T : Type 0} (turn : Turn T) (walk : Walk) (to : Stage) (w now : World) → TakeGoesOn turn to → Stepped walk to w now → OnDone turn (λ _. HasNone walk.op now)
take_given (Done answer) walk to w now goes stepped = ended_none walk to w now stepped goes
take_given More walk to w now goes stepped = tt
take_given (Busy op) walk to w now goes stepped = tt
take_given (Refused fault) walk to w now goes stepped = tt

-- with what a call that has ended tells
pub taken_with : (turn : Turn (Unit {0})) (told : Bool) (walk : Walk) (w now : World) → TakesKeys walk turn w now → TakenKeys walk (answer_with turn told) w now
taken_with (Done answer) told walk w now is = is
taken_with More told walk w now is = is
taken_with (Busy op) told walk w now is = is
taken_with (Refused fault) told walk w now is = is

pub told_with : (turn : Turn (Unit {0})) (told : Bool) (walk : Walk) (w : World) → TellsTaken walk turn told w → IsTaken walk (answer_with turn told) w
told_with (Done answer) told walk w is = is
told_with More told walk w is = is
told_with (Busy op) told walk w is = is
told_with (Refused fault) told walk w is = is

pub found_with : (turn : Turn (Unit {0})) (told : Option Pair) (walk : Walk) (found_at : Target → List Pair → Option Pair) (w : World) → TellsFound walk found_at turn told w → IsFound walk found_at (answer_with turn told) w
found_with (Done answer) told walk found_at w is = is
found_with More told walk found_at w is = is
found_with (Busy op) told walk found_at w is = is
found_with (Refused fault) told walk found_at w is = is

-- nothing is told by a turn that was not done
pub untaken_other : (turn : Turn (Unit {0})) (told : Bool) (walk : Walk) (w : World) → is_done turn ≡ false → TellsTaken walk turn told w
untaken_other (Done answer) told walk w other = absurd (true≢false other)
untaken_other More told walk w other = tt
untaken_other (Busy op) told walk w other = tt
untaken_other (Refused fault) told walk w other = tt

pub unfound_other : (turn : Turn (Unit {0})) (told : Option Pair) (walk : Walk) (found_at : Target → List Pair → Option Pair) (w : World) → is_done turn ≡ false → TellsFound walk found_at turn told w
unfound_other (Done answer) told walk found_at w other = absurd (true≢false other)
unfound_other More told walk found_at w other = tt
unfound_other (Busy op) told walk found_at w other = tt
unfound_other (Refused fault) told walk found_at w other = tt

pub goes_with : (turn : Turn (Unit {0})) (told : Bool) (to : Stage) → TakeGoesOn turn to → TakeGoesOn (answer_with turn told) to
goes_with (Done answer) told to is = is
goes_with More told to is = is
goes_with (Busy op) told to is = is
goes_with (Refused fault) told to is = is

-- the edit of an operation is the step of its mark
pub step_allowed : (allows : Mark → Effect → Type 0) (mark : Mark) (target : Target) (effect : Pair → Effect) (pair : Pair) (page : ℕ) (new : NodeValue) (w : World) → MayBear allows mark target effect → target ≡ At pair → Makes (effect pair) page new w → Allowed (allows mark) mark page new w
step_allowed allows mark target effect pair page new w may is makes = ⊎_elim (λ none. inl none) (λ allowed. inr (effect pair, allowed pair is, makes)) may

pub step_meant : (allows : Mark → Effect → Type 0) (mark : Mark) (target : Target) (effect : Pair → Effect) (pair : Pair) (page : ℕ) (new : NodeValue) (w : World) → MayBear allows mark target effect → target ≡ At pair → Makes (effect pair) page new w → IsIn (root_of (effect pair)) page w → Meant (allows mark) mark page new w
step_meant allows mark target effect pair page new w may is makes in_index = ⊎_elim (λ none. inl none) (λ allowed. inr (effect pair, allowed pair is, makes, in_index)) may

-- a leaf that an operation has is one of its index
pub is_in : (lost : List ℕ) (walk : Walk) (page : ℕ) (node : NodeValue) (w : World) → page_at w page ≡ Holds node → Stands walk (stage.Held page) (with_lost lost w) → IsIn walk.at page w
is_in lost walk page node w is stands =
    let of = (held_seen walk page node (with_lost lost w) is stands).0.of in
    record { def = stands.is.def; node = node; defined = stands.is.defined; is = is; file = of.file ∙ sym stands.is.file; index = of.index ∙ stands.is.index }
