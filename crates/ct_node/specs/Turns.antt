-- What a turn's answer says of the world and of faults.
use Rattle.std.specs.Prelude.{◌≡◌, ℕ, ◌<◌, ◌≤◌, Option, Some, None}
use Rattle.ct_disk.specs.declared.turn.Turn.{Turn}
use Rattle.ct_disk.specs.declared.turn.Turn.TheVariants.{Done, More, Busy, Refused}
use Rattle.ct_disk.specs.declared.turn.StepFault.{StepFault}
use Rattle.ct_disk.specs.declared.turn.StepFault.TheVariants.{Read, Halted, Memory}
use Rattle.ct_disk.specs.declared.turn.HaltCause.{HaltCause}
use Rattle.ct_disk.specs.declared.turn.HaltCause.TheVariants.{BadPage}
use Rattle.ct_disk.specs.Disk.{Rose}
use Rattle.ct_latch.specs.declared.hold.Hold.{Hold}
use Rattle.ct_node.specs.declared.root.Mark.{Mark}
use Rattle.ct_node.specs.Worlds.{World, no_mark}

-- a fact of what was answered
abbrev pub OnDone : {T : Type 0} → Turn T → (T → Type 0) → Type 0
OnDone (Done answer) P = P answer
OnDone More P = Unit {0}
OnDone (Busy op) P = Unit {0}
OnDone (Refused fault) P = Unit {0}

-- a fact of the operation that holds what is wanted
abbrev pub OnBusy : {T : Type 0} → Turn T → (ℕ → Type 0) → Type 0
OnBusy (Done answer) P = Unit {0}
OnBusy More P = Unit {0}
OnBusy (Busy op) P = P op
OnBusy (Refused fault) P = Unit {0}

-- the world after a call: changed where it was done, and else as it was
abbrev pub After : {T : Type 0} → Turn T → (T → World) → World → World → Type 0
After (Done answer) done before now = now ≡ done answer
After More done before now = now ≡ before
After (Busy op) done before now = now ≡ before
After (Refused fault) done before now = now ≡ before

-- a latch is refused exactly by the first hold that bars it
abbrev pub LatchedBy : Turn (Unit {0}) → Option Hold → Type 0
LatchedBy (Done answer) barring = barring ≡ None
LatchedBy More barring = Unit {0}
LatchedBy (Busy op) barring = (hold : Hold) × (barring ≡ Some hold) × (hold.op ≡ op)
LatchedBy (Refused fault) barring = Unit {0}

-- what a fault has as its cause: a count of faulty reads that rose, or a halt that is kept; want of memory is free
abbrev pub Caused : StepFault → ℕ → ℕ → Option HaltCause → Option HaltCause → Type 0
Caused Read before now halted halts = Rose before now × (halts ≡ halted)
Caused (Halted cause) before now halted halts = (before ≤ now) × (halts ≡ Some cause)
Caused Memory before now halted halts = (before ≤ now) × (halts ≡ halted)

-- the cause of a halt for a page: that of an earlier halt is kept
abbrev pub kept_cause : Option HaltCause → ℕ → HaltCause
kept_cause None page = BadPage page
kept_cause (Some cause) page = cause

-- the faults and the halt after a call: no count falls, and the halt is as it was, but where the call is refused
abbrev pub CausedTurn : {T : Type 0} → Turn T → ℕ → ℕ → Option HaltCause → Option HaltCause → Type 0
CausedTurn (Done answer) before now halted halts = (before ≤ now) × (halts ≡ halted)
CausedTurn More before now halted halts = (before ≤ now) × (halts ≡ halted)
CausedTurn (Busy op) before now halted halts = (before ≤ now) × (halts ≡ halted)
CausedTurn (Refused fault) before now halted halts = Caused fault before now halted halts

-- the mark of the step that a call made: that of an edit that was done, and else none
abbrev pub mark_by : {T : Type 0} → Turn T → Mark → Mark
mark_by (Done answer) mark = mark
mark_by More mark = no_mark
mark_by (Busy op) mark = no_mark
mark_by (Refused fault) mark = no_mark

-- a fact of a turn that is to go on
abbrev pub OnMore : {T : Type 0} → Turn T → Type 0 → Type 0
OnMore (Done answer) P = Unit {0}
OnMore More P = P
OnMore (Busy op) P = Unit {0}
OnMore (Refused fault) P = Unit {0}

-- what is left of the pages' own work: less where a call is to be made again, and no more where it was done
abbrev pub LeavesLess : {T : Type 0} → Turn T → ℕ → ℕ → Type 0
LeavesLess (Done answer) before now = now ≤ before
LeavesLess More before now = now < before
LeavesLess (Busy op) before now = Unit {0}
LeavesLess (Refused fault) before now = Unit {0}
