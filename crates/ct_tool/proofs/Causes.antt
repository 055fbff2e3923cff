-- Why a run ended as it did.
use Rattle.std.proofs.Common.{◌≡◌, ◌⊎◌, inl, inr, ◌≤◌, ℕ, List, [], ◌∷◌, Bool, Option, Some, None, refl, sym, ap, subst, arith, MatchOption}
use Rattle.ct_disk.specs.Disk.{Rose}
use Rattle.ct_disk.specs.declared.turn.HaltCause.{HaltCause}
use Rattle.ct_disk.specs.declared.turn.HaltCause.TheVariants.{Write, Read, Memory as NoRoomLeft, BadPage, BadLog, Limit}
use Rattle.ct_transcript.specs.Transcript.{Served}
use Rattle.ct_yard.specs.Telling.{Telling}
use Rattle.ct_yard.specs.Machine.{Machine, HasHaltCause}
use Rattle.ct_session.specs.Replies.{spelling}
use Rattle.ct_session.proofs.Moves.{MovesRunning, step_moves}
use Rattle.ct_tool.specs.declared.input.Stop.{Stop}
use Rattle.ct_tool.specs.declared.input.Stop.TheVariants.{End, Quit, Source as SourceFailed, Sink as SinkFailed, Memory as NoRoom, Long as TooLong}
use Rattle.ct_tool.specs.declared.ended.Cause.{Cause}
use Rattle.ct_tool.specs.declared.ended.Cause.TheVariants.{Done, Usage, Unbuilt, Undone, NotEmpty, BadLog as BadLogAt, BadPage as BadPageAt, Limit as AtLimit, Device, Memory, Source, Sink, Long}
use Rattle.ct_tool.specs.Ends.{stopped_by, halted_by}
use Rattle.ct_tool.specs.Talking.{Moment, KeptStep, Input, Output, StopsBy}
use Rattle.ct_tool.specs.Causes.{IsSessionCause, HasRunCause}

-- what holds of a machine since its first count: a running one has failed no less often, and a halted one has its cause
abbrev pub IsCaused : ℕ → Machine → Type 0
IsCaused first machine = MatchOption machine.halt (first ≤ machine.faults) (λ cause. HasHaltCause cause first machine.faults)

rose_since : (a b c : ℕ) → a ≤ b → Rose b c → Rose a c
rose_since a b c earlier rose = omega (arith, rose)

caused_since : (cause : HaltCause) (a b c : ℕ) → a ≤ b → HasHaltCause cause b c → HasHaltCause cause a c
caused_since Write a b c earlier has = rose_since a b c earlier has
caused_since NoRoomLeft a b c earlier has = omega (arith, has)
caused_since Read a b c earlier has = has
caused_since (BadPage page) a b c earlier has = has
caused_since (BadLog place) a b c earlier has = has
caused_since Limit a b c earlier has = omega (arith, has)

pub running_is_caused : (halt : Option HaltCause) (A : Type 0) (P : HaltCause → Type 0) → halt ≡ None → A → MatchOption halt A P
running_is_caused None A P same a = a
running_is_caused (Some cause) A P same a = absurd (cc)

halted_is_caused : (halt : Option HaltCause) (cause : HaltCause) (A : Type 0) (P : HaltCause → Type 0) → halt ≡ Some cause → P cause → MatchOption halt A P
halted_is_caused None cause A P same has = absurd (cc)
halted_is_caused (Some other) cause A P same has = let e : other ≡ cause = cc in subst P (sym e) has

same_is_caused : (first : ℕ) (m next : Machine) → IsCaused first m → next ≡ m → IsCaused first next
same_is_caused first m next caused same = subst (λ (n : Machine). IsCaused first n) (sym same) caused

caused_going : (halt : Option HaltCause) (A : Type 0) (P : HaltCause → Type 0) → halt ≡ None → MatchOption halt A P → A
caused_going None A P running caused = caused
caused_going (Some cause) A P running caused = absurd (cc)

caused_moves : (first : ℕ) (m next : Machine) → IsCaused first m → MovesRunning m next → IsCaused first next
caused_moves first m next caused (inl same) = same_is_caused first m next caused same
caused_moves first m next caused (inr moves) =
    let running : first ≤ m.faults = caused_going m.halt (first ≤ m.faults) (λ cause. HasHaltCause cause first m.faults) moves.0 caused in
    elim (moves.1).ends [
      | inl done ↦ running_is_caused next.halt (first ≤ next.faults) (λ cause. HasHaltCause cause first next.faults) done.running (omega (arith, running, done.faults))
      | inr halted ↦ halted_is_caused next.halt halted.0 (first ≤ next.faults) (λ cause. HasHaltCause cause first next.faults) halted.1.halt (caused_since halted.0 first m.faults next.faults running halted.1.cause)
    ]

-- over a whole run
pub caused_served : {L : Type 0} (founded : Bool) (disk : Telling L) (front : List ℕ) (first : ℕ) (old : Moment L) (lines : List (Option (List ℕ))) (text : List ℕ) (new : Moment L) → IsCaused first old.machine
    → Served (KeptStep founded disk front) spelling old lines text new → IsCaused first new.machine
caused_served founded disk front first old [] text new caused served = same_is_caused first old.machine new.machine caused (ap (λ m. m.machine) served.1)
caused_served founded disk front first old (line ∷ lines) text new caused served =
    let mid = served.1 in
    caused_served founded disk front first mid lines served.2 new
    (caused_moves first old.machine mid.machine caused (step_moves old.machine mid.machine old.visit mid.visit line served.0 (served.3).0)) served.5

-- whose count rose, of a run that a session's input and its halt ended
pub run_cause : (stop : Stop) (halt : Option HaltCause) (pages log log' : ℕ) (i i' : Input) (o o' : Output) → StopsBy stop i i' o o' → MatchOption halt (log ≤ log') (λ cause. HasHaltCause cause log log')
    → HasRunCause (stopped_by stop halt) pages pages log log' i.faults i'.faults o.faults o'.faults
run_cause End None pages log log' i i' o o' stops caused = (stops.2, stops.3)
run_cause End (Some Write) pages log log' i i' o o' stops caused = inr caused
run_cause End (Some Read) pages log log' i i' o o' stops caused = absurd caused
run_cause End (Some NoRoomLeft) pages log log' i i' o o' stops caused = (stops.2, stops.3)
run_cause End (Some (BadPage page)) pages log log' i i' o o' stops caused = absurd caused
run_cause End (Some (BadLog place)) pages log log' i i' o o' stops caused = absurd caused
run_cause End (Some Limit) pages log log' i i' o o' stops caused = (stops.2, stops.3)
run_cause Quit None pages log log' i i' o o' stops caused = (stops.1, stops.2)
run_cause Quit (Some Write) pages log log' i i' o o' stops caused = inr caused
run_cause Quit (Some Read) pages log log' i i' o o' stops caused = absurd caused
run_cause Quit (Some NoRoomLeft) pages log log' i i' o o' stops caused = (stops.1, stops.2)
run_cause Quit (Some (BadPage page)) pages log log' i i' o o' stops caused = absurd caused
run_cause Quit (Some (BadLog place)) pages log log' i i' o o' stops caused = absurd caused
run_cause Quit (Some Limit) pages log log' i i' o o' stops caused = (stops.1, stops.2)
run_cause SourceFailed halt pages log log' i i' o o' stops caused = stops.1
run_cause SinkFailed halt pages log log' i i' o o' stops caused = stops.2
run_cause NoRoom halt pages log log' i i' o o' stops caused = (stops.1, stops.2)
run_cause TooLong halt pages log log' i i' o o' stops caused = (stops.2, stops.3)

-- how a session's run may end
pub session_cause : (stop : Stop) (halt : Option HaltCause) (log log' : ℕ) → MatchOption halt (log ≤ log') (λ cause. HasHaltCause cause log log') → IsSessionCause (stopped_by stop halt)
session_cause End None log log' caused = tt
session_cause End (Some Write) log log' caused = tt
session_cause End (Some Read) log log' caused = absurd caused
session_cause End (Some NoRoomLeft) log log' caused = tt
session_cause End (Some (BadPage page)) log log' caused = absurd caused
session_cause End (Some (BadLog place)) log log' caused = absurd caused
session_cause End (Some Limit) log log' caused = tt
session_cause Quit None log log' caused = tt
session_cause Quit (Some Write) log log' caused = tt
session_cause Quit (Some Read) log log' caused = absurd caused
session_cause Quit (Some NoRoomLeft) log log' caused = tt
session_cause Quit (Some (BadPage page)) log log' caused = absurd caused
session_cause Quit (Some (BadLog place)) log log' caused = absurd caused
session_cause Quit (Some Limit) log log' caused = tt
session_cause SourceFailed halt log log' caused = tt
session_cause SinkFailed halt log log' caused = tt
session_cause NoRoom halt log log' caused = tt
session_cause TooLong halt log log' caused = tt

-- DONE only where the input or the session came to its end, LONG only where it was too long
pub done_at_end : (stop : Stop) (halt : Option HaltCause) → stopped_by stop halt ≡ Done → (stop ≡ End) ⊎ (stop ≡ Quit)
done_at_end End halt why = inl refl
done_at_end Quit halt why = inr refl
done_at_end SourceFailed halt why = absurd (cc)
done_at_end SinkFailed halt why = absurd (cc)
done_at_end NoRoom halt why = absurd (cc)
done_at_end TooLong halt why = absurd (cc)

halted_is_not_long : (halt : Option HaltCause) → halted_by halt ≡ Long → ⊥
halted_is_not_long None why = cc
halted_is_not_long (Some Write) why = cc
halted_is_not_long (Some Read) why = cc
halted_is_not_long (Some NoRoomLeft) why = cc
halted_is_not_long (Some (BadPage page)) why = cc
halted_is_not_long (Some (BadLog place)) why = cc
halted_is_not_long (Some Limit) why = cc

pub long_at_long : (stop : Stop) (halt : Option HaltCause) → stopped_by stop halt ≡ Long → stop ≡ TooLong
long_at_long End halt why = absurd (halted_is_not_long halt why)
long_at_long Quit halt why = absurd (halted_is_not_long halt why)
long_at_long SourceFailed halt why = absurd (cc)
long_at_long SinkFailed halt why = absurd (cc)
long_at_long NoRoom halt why = absurd (cc)
long_at_long TooLong halt why = refl

-- a count that rose since later rose since earlier
pub cause_since : (cause : Cause) (p p' p'' l l' l'' source source' sink sink' : ℕ) → p ≤ p' → l ≤ l' → HasRunCause cause p' p'' l' l'' source source' sink sink' → HasRunCause cause p p'' l l'' source source' sink sink'
cause_since Device p p' p'' l l' l'' source source' sink sink' pages log has = elim has [ inl rose ↦ inl (rose_since p p' p'' pages rose) | inr rose ↦ inr (rose_since l l' l'' log rose) ]
cause_since cause p p' p'' l l' l'' source source' sink sink' pages log has = has
