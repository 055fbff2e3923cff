-- What is known where a call was done, and where it was not.
use Rattle.std.proofs.Common.{◌≡◌, ℕ, ◌≤◌, cond, arith, inl, inr, ⊎_elim, Bool, true, false, ◌&&◌, eqb, length, Option, None, sym, ◌∙◌, ap, not}
use Rattle.std.proofs.lemmas.Bool.{false≢true, true≢false, and_from, and_parts, eq-eqb, eqb-true}
use Rattle.ct_latch.specs.declared.hold.Hold.{Hold}
use Rattle.ct_definitions.specs.Pairs.{Pair}
use Rattle.ct_node.specs.Nodes.{NodeValue, is_within}
use Rattle.ct_node.specs.Roles.{begins_at_low}
use Rattle.ct_disk.specs.declared.turn.Turn.{Turn}
use Rattle.ct_disk.specs.declared.turn.Turn.TheVariants.{Done, More, Busy, Refused}
use Rattle.ct_node.specs.Worlds.{World, IsTidy, no_mark}
use Rattle.ct_disk.specs.declared.turn.HaltCause.{HaltCause}
use Rattle.ct_disk.specs.declared.turn.StepFault.{StepFault}
use Rattle.ct_disk.specs.declared.turn.StepFault.TheVariants.{Read, Halted, Memory}
use Rattle.ct_node.specs.declared.root.Mark.{Mark}
use Rattle.ct_tree_laws.specs.declared.walk.Walk.{Walk}
use Rattle.ct_tree_laws.specs.declared.walk.Stage.{Stage}
use Rattle.ct_tree_laws.specs.declared.walk.Stage.TheVariants as stage
use Rattle.ct_tree_laws.specs.Stands.{Stepped, Stands, KeepsKeys}
use Rattle.ct_node.specs.Turns.{After, LatchedBy, CausedTurn, mark_by}
use Rattle.ct_tree.specs.Answers.{GoesBy, BearsPut, BearsTake, PutsKeys, TakesKeys, has_at, is_done, is_for, IsSearching, IsSearchingLeft, IsSearchingBy, is_above_for}
use Rattle.ct_tree.specs.declared.seek.Seek.{Seek}
use Rattle.ct_tree.specs.declared.seek.Seek.TheVariants.{AtOrAbove, Above, AtOrBelow, Below}

pub after_done : (turn : Turn (Unit {0})) (changed : Unit {0} → World) (w now : World) → is_done turn ≡ true → After turn changed w now → now ≡ changed tt
after_done (Done answer) changed w now done is = is
after_done More changed w now done is = absurd (false≢true done)
after_done (Busy op) changed w now done is = absurd (false≢true done)
after_done (Refused fault) changed w now done is = absurd (false≢true done)

pub after_other : (turn : Turn (Unit {0})) (changed : Unit {0} → World) (w now : World) → is_done turn ≡ false → After turn changed w now → now ≡ w
after_other (Done answer) changed w now other is = absurd (true≢false other)
after_other More changed w now other is = is
after_other (Busy op) changed w now other is = is
after_other (Refused fault) changed w now other is = is

pub free_when_done : (turn : Turn (Unit {0})) (barring : Option Hold) → is_done turn ≡ true → LatchedBy turn barring → barring ≡ None
free_when_done (Done answer) barring done is = is
free_when_done More barring done is = absurd (false≢true done)
free_when_done (Busy op) barring done is = absurd (false≢true done)
free_when_done (Refused fault) barring done is = absurd (false≢true done)

-- a node that a pair may stand in
pub is_for_from : (node : NodeValue) (pair : Pair) → node.leaf ≡ true → node.key_len ≡ length pair.key → is_within node.low node.high pair ≡ true → is_for node pair ≡ true
is_for_from node pair leaf key within = and_from (node.leaf && eqb node.key_len (length pair.key)) (is_within node.low node.high pair) (and_from node.leaf (eqb node.key_len (length pair.key)) leaf (eq-eqb node.key_len (length pair.key) key)) within

pub is_for_parts : (node : NodeValue) (pair : Pair) → is_for node pair ≡ true → (node.leaf ≡ true) × (length pair.key ≡ node.key_len) × (is_within node.low node.high pair ≡ true)
is_for_parts node pair is =
    let first = and_parts (node.leaf && eqb node.key_len (length pair.key)) (is_within node.low node.high pair) is in
    let second = and_parts node.leaf (eqb node.key_len (length pair.key)) first.0 in
    (second.0, sym (eqb-true node.key_len (length pair.key) second.1), first.1)

-- a node that a separator may be posted to
pub is_above_for_from : (node : NodeValue) (pair : Pair) → node.leaf ≡ false → node.key_len ≡ length pair.key → begins_at_low node ≡ true → is_above_for node pair ≡ true
is_above_for_from node pair inner key begins = and_from (not node.leaf && eqb node.key_len (length pair.key)) (begins_at_low node) (and_from (not node.leaf) (eqb node.key_len (length pair.key)) (ap not inner) (eq-eqb node.key_len (length pair.key) key)) begins

-- a search has no page that is written and reached by no link
pub search_tidy : (walk : Walk) (above : Bool) (at : Stage) (w : World) → IsSearching above at → Stands walk at w → IsTidy walk.op w
search_tidy walk above stage.Start w is here = here.place.0
search_tidy walk above (stage.Down page) w is here = here.place.0
search_tidy walk above (stage.Leaf page) w is here = here.place.0
search_tidy walk above (stage.Held page) w is here = absurd is
search_tidy walk above (stage.Full page) w is here = absurd is
search_tidy walk above (stage.Split page right) w is here = absurd is
search_tidy walk above (stage.Cut page right) w is here = absurd is
search_tidy walk above (stage.Share page over) w is here = here.place.0
search_tidy walk above (stage.Shared page over) w is here = here.place.0
search_tidy walk above (stage.SharedLeft page) w is here = absurd is
search_tidy walk above (stage.Left low or_at on) w is here = absurd is
search_tidy walk above (stage.Post separator rise) w is here = absurd is
search_tidy walk above stage.Ended w is here = absurd is

pub left_tidy : (walk : Walk) (or_at : Bool) (at : Stage) (w : World) → IsSearchingLeft or_at at → Stands walk at w → IsTidy walk.op w
left_tidy walk or_at stage.Start w is here = here.place.0
left_tidy walk or_at (stage.Down page) w is here = here.place.0
left_tidy walk or_at (stage.Leaf page) w is here = here.place.0
left_tidy walk or_at (stage.Held page) w is here = absurd is
left_tidy walk or_at (stage.Full page) w is here = absurd is
left_tidy walk or_at (stage.Split page right) w is here = absurd is
left_tidy walk or_at (stage.Cut page right) w is here = absurd is
left_tidy walk or_at (stage.Share page above) w is here = absurd is
left_tidy walk or_at (stage.Shared page above) w is here = absurd is
left_tidy walk or_at (stage.SharedLeft page) w is here = here.place.0
left_tidy walk or_at (stage.Left low over on) w is here = here.place.0
left_tidy walk or_at (stage.Post separator rise) w is here = absurd is
left_tidy walk or_at stage.Ended w is here = absurd is

pub tidy_by : (walk : Walk) (seek : Seek) (at : Stage) (w : World) → IsSearchingBy seek at → Stands walk at w → IsTidy walk.op w
tidy_by walk AtOrAbove at w is = search_tidy walk false at w is
tidy_by walk Above at w is = search_tidy walk true at w is
tidy_by walk AtOrBelow at w is = left_tidy walk true at w is
tidy_by walk Below at w is = left_tidy walk false at w is

-- a search that begins, by its kind
pub seek_start : (seek : Seek) → IsSearchingBy seek stage.Start
seek_start AtOrAbove = tt
seek_start Above = tt
seek_start AtOrBelow = tt
seek_start Below = tt

-- what holds after one call and after the next
pub stepped_on : (walk : Walk) (first to : Stage) (w mid now : World) → Stepped walk first w mid → Stepped walk to mid now → Stepped walk to w now
stepped_on walk first to w mid now one next = record { stands = next.stands; keeps = λ other stage differ stands. next.keeps other stage differ (one.keeps other stage differ stands); levels = λ level page is. next.levels level page (one.levels level page is); at = λ t leaf low page is. next.at t leaf low page (one.at t leaf low page is) }

-- how the pages have gone on by an edit, where it was done and where it was not
pub goes_done : (turn : Turn (Unit {0})) (mark : Mark) (goes : Mark → Type 0) → is_done turn ≡ true → goes (mark_by turn mark) → goes mark
goes_done (Done answer) mark goes done is = is
goes_done More mark goes done is = absurd (false≢true done)
goes_done (Busy op) mark goes done is = absurd (false≢true done)
goes_done (Refused fault) mark goes done is = absurd (false≢true done)

pub goes_other : (turn : Turn (Unit {0})) (mark : Mark) (goes : Mark → Type 0) → is_done turn ≡ false → goes (mark_by turn mark) → GoesBy turn mark goes
goes_other (Done answer) mark goes other is = absurd (true≢false other)
goes_other More mark goes other is = is
goes_other (Busy op) mark goes other is = is
goes_other (Refused fault) mark goes other is = is

-- an edit that bears no mark is no step
pub goes_none : (turn : Turn (Unit {0})) (goes : Mark → Type 0) → goes (mark_by turn no_mark) → goes no_mark
goes_none (Done answer) goes is = is
goes_none More goes is = is
goes_none (Busy op) goes is = is
goes_none (Refused fault) goes is = is

-- a turn that has made no step
pub goes_nothing : (turn : Turn (Unit {0})) (mark : Mark) (goes : Mark → Type 0) → goes no_mark → GoesBy turn mark goes
goes_nothing (Done answer) mark goes is = inr is
goes_nothing More mark goes is = is
goes_nothing (Busy op) mark goes is = is
goes_nothing (Refused fault) mark goes is = is

-- a turn after a call that made no step
pub goes_on : (turn : Turn (Unit {0})) (mark : Mark) (first next : Mark → Type 0) → ((step : Mark) → first step → next step) → GoesBy turn mark first → GoesBy turn mark next
goes_on (Done answer) mark first next carry is = ⊎_elim (λ one. inl (carry mark one)) (λ none. inr (carry no_mark none)) is
goes_on More mark first next carry is = carry no_mark is
goes_on (Busy op) mark first next carry is = carry no_mark is
goes_on (Refused fault) mark first next carry is = carry no_mark is

pub bears_on : (walk : Walk) (turn : Turn (Unit {0})) (mark : Mark) (w : World) (first next : Mark → Type 0) → ((step : Mark) → first step → next step) → BearsPut walk mark turn w first → BearsPut walk mark turn w next
bears_on walk (Done answer) mark w first next carry is = λ keys chain. carry (cond (has_at walk.target keys) no_mark mark) (is keys chain)
bears_on walk More mark w first next carry is = tt
bears_on walk (Busy op) mark w first next carry is = tt
bears_on walk (Refused fault) mark w first next carry is = tt

pub bears_other : (walk : Walk) (turn : Turn (Unit {0})) (mark : Mark) (w : World) (goes : Mark → Type 0) → is_done turn ≡ false → BearsPut walk mark turn w goes
bears_other walk (Done answer) mark w goes other = absurd (true≢false other)
bears_other walk More mark w goes other = tt
bears_other walk (Busy op) mark w goes other = tt
bears_other walk (Refused fault) mark w goes other = tt

pub taken_on : (turn : Turn (Unit {0})) (mark : Mark) (found : Bool) (first next : Mark → Type 0) → ((step : Mark) → first step → next step) → BearsTake mark turn found first → BearsTake mark turn found next
taken_on (Done answer) mark found first next carry is = carry (cond found mark no_mark) is
taken_on More mark found first next carry is = carry no_mark is
taken_on (Busy op) mark found first next carry is = carry no_mark is
taken_on (Refused fault) mark found first next carry is = carry no_mark is

pub taken_other : (turn : Turn (Unit {0})) (mark : Mark) (found : Bool) (goes : Mark → Type 0) → is_done turn ≡ false → goes no_mark → BearsTake mark turn found goes
taken_other (Done answer) mark found goes other is = absurd (true≢false other)
taken_other More mark found goes other is = is
taken_other (Busy op) mark found goes other is = is
taken_other (Refused fault) mark found goes other is = is

-- pairs stay in a turn that was not done
pub puts_other : (walk : Walk) (turn : Turn (Unit {0})) (w now : World) → is_done turn ≡ false → KeepsKeys w now → PutsKeys walk turn w now
puts_other walk (Done answer) w now other is = absurd (true≢false other)
puts_other walk More w now other is = is
puts_other walk (Busy op) w now other is = is
puts_other walk (Refused fault) w now other is = is

pub takes_other : (walk : Walk) (turn : Turn (Unit {0})) (w now : World) → is_done turn ≡ false → KeepsKeys w now → TakesKeys walk turn w now
takes_other walk (Done answer) w now other is = absurd (true≢false other)
takes_other walk More w now other is = is
takes_other walk (Busy op) w now other is = is
takes_other walk (Refused fault) w now other is = is

-- the faults and the halt after a call that was done and after the next one
pub caused_on : {T : Type 0} (turn : Turn T) (before mid now : ℕ) (halted halting halts : Option HaltCause) → before ≤ mid → halting ≡ halted → CausedTurn turn mid now halting halts → CausedTurn turn before now halted halts
caused_on (Done answer) before mid now halted halting halts up same caused = let more = caused.0 in (omega (arith, more), caused.1 ∙ same)
caused_on More before mid now halted halting halts up same caused = let more = caused.0 in (omega (arith, more), caused.1 ∙ same)
caused_on (Busy op) before mid now halted halting halts up same caused = let more = caused.0 in (omega (arith, more), caused.1 ∙ same)
caused_on (Refused Read) before mid now halted halting halts up same caused = let more = caused.0 in (omega (arith, more), caused.1 ∙ same)
caused_on (Refused (Halted cause)) before mid now halted halting halts up same caused = let more = caused.0 in (omega (arith, more), caused.1)
caused_on (Refused Memory) before mid now halted halting halts up same caused = let more = caused.0 in (omega (arith, more), caused.1 ∙ same)

pub caused_done : (turn : Turn (Unit {0})) (before after : ℕ) (halted halts : Option HaltCause) → is_done turn ≡ true → CausedTurn turn before after halted halts → (before ≤ after) × (halts ≡ halted)
caused_done (Done answer) before after halted halts done caused = caused
caused_done More before after halted halts done caused = absurd (false≢true done)
caused_done (Busy op) before after halted halts done caused = absurd (false≢true done)
caused_done (Refused fault) before after halted halts done caused = absurd (false≢true done)

pub goes_not_done : (turn : Turn (Unit {0})) (mark : Mark) (goes : Mark → Type 0) → is_done turn ≡ false → goes (mark_by turn mark) → goes no_mark
goes_not_done (Done answer) mark goes other is = absurd (true≢false other)
goes_not_done More mark goes other is = is
goes_not_done (Busy op) mark goes other is = is
goes_not_done (Refused fault) mark goes other is = is
