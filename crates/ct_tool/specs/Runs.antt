-- A run of the tool.
use Rattle.std.specs.Prelude.{◌≡◌, ◌⊎◌, ◌≤◌, ℕ, List, [], ◌∷◌, ◌++◌, codes, decimal, length, sum_by, Bool, true, false, IsTrue, Option, Some, None}
use Rattle.std.specs.Io.KnownBytes.{Appends, IsAtEnd, Keeps}
use Rattle.ct_definitions.specs.Changes.{State}
use Rattle.ct_definitions.specs.Histories.{History, IsHistory, Begins, last_number}
use Rattle.ct_laws.specs.Cut.{history_up_to}
use Rattle.ct_disk.specs.Disk.{AllImages}
use Rattle.ct_log.specs.Front.{front}
use Rattle.ct_log.specs.Heads.{has_open_header}
use Rattle.ct_log.specs.Reading.{IsRead}
use Rattle.ct_log.specs.declared.head.Head.{Head}
use Rattle.ct_yard.specs.declared.yard.Yard.{Yard}
use Rattle.ct_yard.specs.Telling.{Telling}
use Rattle.ct_yard.specs.Kept.{Founds, Kept, Recovers, empty_directory}
use Rattle.ct_yard.specs.LogTexts.{HasTransactions, HoldsPrefix}
use Rattle.ct_yard.specs.Machine.{Machine, opened_machine}
use Rattle.ct_yard.specs.Yards.{StandsFor}
use Rattle.ct_recover.specs.Opening.{Opens}
use Rattle.ct_recover.specs.Creating.{empty_log, empty_history}
use Rattle.ct_line.specs.declared.call.Call.TheVariants as calls
use Rattle.ct_lines.specs.Lines.{lines_from}
use Rattle.ct_session.specs.Steps.{Visit, begun_visit, AsksFor}
use Rattle.ct_tool.specs.declared.input.Stop.{Stop}
use Rattle.ct_tool.specs.declared.input.Stop.TheVariants.{Quit}
use Rattle.ct_tool.specs.declared.ended.Cause.{Cause}
use Rattle.ct_tool.specs.Talking.{AreLines, IsLeft, Moment, Talks, Input, Output, Takes, StopsBy}
use Rattle.ct_tool.specs.Causes.{IsOpenCause, IsPutCause, PutsOrKeeps}
use Rattle.ct_tool.specs.Ends.{stopped_by}

-- one of the lines asks for the session's end
abbrev pub HasQuit : List (Option (List ℕ)) → Type 0
HasQuit [] = ⊥
HasQuit (line ∷ lines) = AsksFor line calls.Quit ⊎ HasQuit lines

-- such a line ended in what was taken
abbrev pub TookQuit : Option (List ℕ) → Option (List ℕ) → Type 0
TookQuit taken now_taken = (bytes : List ℕ) × Appends taken now_taken bytes × HasQuit (lines_from (Some []) bytes)

-- the source is at its end, or a line ended the session
abbrev pub IsOver : Option (List ℕ) → Option (List ℕ) → Option (List ℕ) → Type 0
IsOver left taken now_taken = IsAtEnd left ⊎ TookQuit taken now_taken

-- the moment at which a session begins, on a yard that stands for a machine
abbrev pub begun_at : {P L : Type 0} → Machine → Yard P L → Moment L
begun_at machine yard = record { machine = machine; visit = begun_visit; log = (yard.log).device }

-- One session ran from a moment on: its replies to the lines of what was taken are what was written, but for what the sink
-- refused; the cause is what stopped its input, or what halted its store; the number in front is that of the run's last
-- transaction; and whatever a crash leaves of the log at the end is that of a prefix of the run's history which has each
-- acknowledged transaction.
pub record IsSession {L : Type 0} (founded : Bool) (disk : Telling L) (front : List ℕ) (start : Moment L) (now : L) (stop : Stop) (bytes : List ℕ) (left_of_input : Option (List ℕ)) (cause : Cause) (number : ℕ) (output output' : Output) : Type 0 where
  pub end : Machine
  pub visit : Visit
  pub lines : List (Option (List ℕ))
  pub left : List ℕ
  pub lines_are : AreLines stop left_of_input bytes lines
  pub talks : Talks founded disk front start bytes lines (record { machine = end; visit = visit; log = now }) output output' left
  pub put : IsLeft stop left
  -- where QUIT stopped the input, the session has ended
  pub quit : stop ≡ Quit → visit.ended ≡ true
  pub last : number ≡ last_number end.history
  pub why : cause ≡ stopped_by stop end.halt
  -- the run's history goes on from the first one, on its base
  pub defined : IsHistory end.history
  pub base : (end.history).base ≡ ((start.machine).history).base
  pub base_number : (end.history).base_number ≡ ((start.machine).history).base_number
  pub begins : Begins (start.machine).history end.history
  pub acknowledged : (start.machine).acknowledged ≤ end.acknowledged
  -- a session that was not halted has each of its transactions acknowledged
  pub all : end.halt ≡ None → end.acknowledged ≡ last_number end.history
  pub kept : IsTrue founded → AllImages (HoldsPrefix front end.history end.acknowledged) (disk.may_leave now)
  -- and so it is of both devices, where the page device has the directory
  pub pair : IsTrue founded → Kept (λ p. p ≡ empty_directory) (disk.may_leave now) front end.history end.acknowledged

-- A session ran over a yard: what stopped its input, and a session from each moment that the running yard stands for.
pub record RanOver {P L : Type 0} (disk : Telling L) (yard : Yard P L) (now : L) (cause : Cause) (number : ℕ) (input input' : Input) (output output' : Output) : Type 0 where
  pub stop : Stop
  pub bytes : List ℕ
  pub takes : Takes input input' bytes
  pub stops : StopsBy stop input input' output output'
  pub ran : (founded : Bool) (front : List ℕ) (machine : Machine) → (IsTrue founded → IsTrue disk.tells) → StandsFor founded disk front machine yard → machine.halt ≡ None
      → IsSession founded disk front (begun_at machine yard) now stop bytes input'.left cause number output output'

-- a yard was opened from a log, which was only read; where that holds a history as a store leaves it, the yard stands for this history
pub record IsOpened {P L : Type 0} (disk : Telling L) (log : L) (yard : Yard P L) : Type 0 where
  pub opens : Opens disk log yard
  pub read : IsTrue disk.tells → IsRead disk.content disk.may_leave disk.left_since log (yard.log).device
  pub as_kept : IsTrue disk.tells → (head : Head) (front : List ℕ) (history : History) → Founds head front history → HasTransactions front history.transactions (disk.content log)
      → StandsFor disk.tells disk front (opened_machine history (disk.faults (yard.log).device) (yard.log).flow.end (yard.log).flow.next) yard

-- `exec` opened the store and ran a session
pub record RanSession {P L : Type 0} (disk : Telling L) (pages : P) (log now : L) (cause : Cause) (number : ℕ) (input input' : Input) (output output' : Output) : Type 0 where
  pub yard : Yard P L
  pub opened : IsOpened disk log yard
  pub same_pages : pages ≡ yard.pages
  pub session : RanOver disk yard now cause number input input' output output'

-- A store stays kept: each pair of images recovers a prefix of a later history, which goes on from the history up to a number
-- that was kept before, and has each acknowledged transaction. The later history is founded as the first one was, so that
-- the next run begins with what this one has left.
pub record StaysKept (page_images log_images : List ℕ → Type 0) (head : Head) (front : List ℕ) (history : History) (least : ℕ) : Type 0 where
  pub number : ℕ
  pub kept_before : least ≤ number
  pub later : History
  pub founds : Founds head front later
  pub base : later.base_number ≡ history.base_number
  pub begins : Begins (history_up_to number history) later
  pub acknowledged : ℕ
  pub from_least : least ≤ acknowledged
  pub kept : Kept page_images log_images front later acknowledged

-- what a run of `exec` does to the images of a store: a store that was kept stays so
abbrev pub KeepsStore : (List ℕ → Type 0) → (List ℕ → Type 0) → (List ℕ → Type 0) → (List ℕ → Type 0) → Type 0
KeepsStore pages log pages' log' = (head : Head) (front : List ℕ) (history : History) (least : ℕ) → Founds head front history → history.base_number ≤ least
    → Kept pages log front history least → StaysKept pages' log' head front history least

-- devices after runs, one after the other: each keeps a store that the devices before it had
abbrev pub RunsKeep : {P L : Type 0} → (P → List ℕ → Type 0) → (L → List ℕ → Type 0) → P × L → List (P × L) → Type 0
RunsKeep page_images log_images first [] = Unit {0}
RunsKeep page_images log_images first (next ∷ rest) = KeepsStore (page_images first.0) (log_images first.1) (page_images next.0) (log_images next.1) × RunsKeep page_images log_images next rest

-- the devices after the last of the runs
abbrev pub last_of : {D : Type 0} → D → List D → D
last_of first [] = first
last_of first (next ∷ rest) = last_of next rest

-- no session ran: nothing was taken
pub record RanNone (cause : Cause) (number : ℕ) (input input' : Input) : Type 0 where
  pub why : IsOpenCause cause
  pub none : number ≡ 0
  pub took : input'.count ≡ input.count
  pub kept : Keeps input.taken input'.taken

-- what `check` puts: the number of the last transaction, how many files there are, and how many records
abbrev pub check_line : ℕ → State → List ℕ
check_line number state = codes "OK " ++ decimal number ++ codes " " ++ decimal (length state) ++ codes " " ++ decimal (sum_by (λ file. length file.records) state) ++ codes "\n"

-- `check` opened the store, and put what it holds
pub record Checked {P L : Type 0} (disk : Telling L) (pages : P) (log now : L) (cause : Cause) (number : ℕ) (written now_written : Option (List ℕ)) : Type 0 where
  pub yard : Yard P L
  pub opened : IsOpened disk log yard
  pub same_pages : pages ≡ yard.pages
  pub same_log : now ≡ (yard.log).device
  pub last : number ≡ yard.front
  pub ends : IsPutCause cause
  pub put : PutsOrKeeps cause written now_written (check_line yard.front yard.state)

-- A store without transactions was made, and whatever a crash leaves of it is this store.
pub record IsMade {P L : Type 0} (pages_disk : Telling P) (log_disk : Telling L) (id : List ℕ) (pages : P) (log : L) : Type 0 where
  pub directory : IsTrue pages_disk.tells → pages_disk.content pages ≡ empty_directory
  pub empty : IsTrue log_disk.tells → log_disk.content log ≡ empty_log id
  pub kept : IsTrue pages_disk.tells → IsTrue log_disk.tells → Kept (pages_disk.may_leave pages) (log_disk.may_leave log) (front id 0) empty_history 0
