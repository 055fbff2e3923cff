-- What a session does to its store, its input and its output while it answers lines.
use Rattle.std.specs.Prelude.{◌≡◌, ◌⊎◌, ◌≤◌, ◌<◌, ◌+◌, ◌^◌, ℕ, List, [], ◌++◌, length, Bool, false, IsTrue, Option, Some, None, Result, Ok, Err, vec_capacity}
use Rattle.std.specs.Io.KnownBytes.{Appends, IsAtEnd}
use Rattle.ct_transcript.specs.Transcript.{Served, Answered}
use Rattle.ct_yard.specs.declared.yard.Yard.{Yard}
use Rattle.ct_yard.specs.Telling.{Telling}
use Rattle.ct_yard.specs.Machine.{Machine}
use Rattle.ct_yard.specs.Yards.{IsSettled, StandsFor, KeptThrough}
use Rattle.ct_isam.specs.Replies.{Reply}
use Rattle.ct_session.specs.Replies.{spelling}
use Rattle.ct_session.specs.Steps.{Visit, Step}
use Rattle.ct_session.specs.Serving.{visit_of}
use Rattle.ct_lines.specs.Lines.{lines_from, lines_of}
use Rattle.ct_link.specs.Faults.{Rose}
use Rattle.ct_link.specs.declared.sink.SinkError.{SinkError}
use Rattle.ct_link.specs.declared.sink.SinkError.TheVariants.{Fault, Memory}
use Rattle.ct_tool.specs.declared.input.Stop.{Stop}
use Rattle.ct_tool.specs.declared.input.Stop.TheVariants.{End, Quit, Source, Sink, Memory as NoRoom, Long}
use Rattle.ct_tool.specs.declared.session.TheConstants.{BLOCK}
use Rattle.ct_tool.specs.declared.talk.Talk.{Talk}
use Rattle.ct_tool.specs.declared.talk.TheConstants.{REPLIES_ROOM}

-- between lines: in the store no chunk is under way, no call is, and there is room for replies
pub record IsReady {P L : Type 0} (talk : Talk P L) : Type 0 where
  pub settled : IsSettled talk.yard
  pub idle : (talk.run).asked ≡ None
  pub room : REPLIES_ROOM ≤ vec_capacity talk.replies

-- a session at one moment: its store, what it keeps of it, and the replies that wait for the output
pub record Scene (P L : Type 0) : Type 0 where
  pub yard : Yard P L
  pub visit : Visit
  pub waiting : List ℕ

abbrev pub scene_of : {P L : Type 0} → Talk P L → Scene P L
scene_of talk = record { yard = talk.yard; visit = visit_of talk.run; waiting = (talk.replies).items }

-- a machine and a session, and the log at that moment
pub record Moment (L : Type 0) : Type 0 where
  pub machine : Machine
  pub visit : Visit
  pub log : L

-- the machine that the store stands for, and the session, at this moment
abbrev pub at_moment : {P L : Type 0} → Machine → Scene P L → Moment L
at_moment machine scene = record { machine = machine; visit = scene.visit; log = ((scene.yard).log).device }

-- A line is answered, and at each moment until the next a crash leaves each acknowledged transaction.
abbrev pub KeptStep : {L : Type 0} → Bool → Telling L → List ℕ → Moment L → Option (List ℕ) → Reply → Moment L → Type 0
KeptStep founded disk front old line reply new = Step old.machine old.visit line reply new.machine new.visit × KeptThrough founded disk front old.machine old.log new.machine new.log

-- replies that wait are put: all but those that still wait, or at an error a first part, and others not
abbrev pub Puts : {E : Type 0} → Result Unit E → Option (List ℕ) → Option (List ℕ) → List ℕ → List ℕ → Type 0
Puts (Ok _) old new waiting now = (part : List ℕ) × Appends old new part × (waiting ≡ part ++ now)
Puts (Err _) old new waiting now = (part left : List ℕ) × Appends old new part × (waiting ≡ part ++ left) × (0 < length left)

-- lines are answered; at an error there are replies left that are lost
abbrev pub AnsweredBy : {L E : Type 0} → Bool → Telling L → List ℕ → Result Unit E → Moment L → List (Option (List ℕ)) → Moment L → Option (List ℕ) → Option (List ℕ) → List ℕ → List ℕ → Type 0
AnsweredBy founded disk front (Ok _) old lines new written now_written waiting now = Answered (KeptStep founded disk front) spelling old lines new written now_written waiting now
AnsweredBy founded disk front (Err _) old lines new written now_written waiting now = (left : List ℕ) × (0 < length left) × Answered (KeptStep founded disk front) spelling old lines new written now_written waiting left

-- a session answers lines over a sink
abbrev pub Serves : {P L E : Type 0} → Telling L → Result Unit E → Scene P L → List (Option (List ℕ)) → Scene P L → Option (List ℕ) → Option (List ℕ) → Type 0
Serves disk result old lines new written now_written =
    (founded : Bool) (front : List ℕ) (machine : Machine) → (IsTrue founded → IsTrue disk.tells) → StandsFor founded disk front machine old.yard →
    (next : Machine) × AnsweredBy founded disk front result (at_moment machine old) lines (at_moment next new) written now_written old.waiting new.waiting × StandsFor founded disk front next new.yard

-- what a source tells: what was taken and what is left where it knows, and how many bytes were taken and how many calls failed
pub record Input : Type 0 where
  pub taken : Option (List ℕ)
  pub left : Option (List ℕ)
  pub count : ℕ
  pub faults : ℕ

-- the same, of the members of `Source`
abbrev pub input_of : {I : Type 0} → (I → Option (List ℕ)) → (I → Option (List ℕ)) → (I → ℕ) → (I → ℕ) → I → Input
input_of taken left count faults source = record { taken = taken source; left = left source; count = count source; faults = faults source }

-- what a sink tells
pub record Output : Type 0 where
  pub written : Option (List ℕ)
  pub faults : ℕ

-- the same, of the members of `Sink`
abbrev pub output_of : {O : Type 0} → (O → Option (List ℕ)) → (O → ℕ) → O → Output
output_of written faults sink = record { written = written sink; faults = faults sink }

-- these bytes were taken; they are counted where they are not known, too
pub record Takes (input now : Input) (bytes : List ℕ) : Type 0 where
  pub took : Appends input.taken now.taken bytes
  pub counted : now.count ≡ input.count + length bytes

-- no more was taken than a run takes
abbrev pub IsWithin : Input → Input → Type 0
IsWithin input now = now.count ≤ input.count + 2 ^ 40

-- Why a session's input stopped: at the source's end, or at the session's; a fault of the source, or of the sink, where no other
-- call failed; the sink's want of memory; or, exactly then, more than a run takes.
abbrev pub StopsBy : Stop → Input → Input → Output → Output → Type 0
StopsBy End input input' output output' = IsAtEnd input'.left × IsWithin input input' × (input'.faults ≡ input.faults) × (output'.faults ≡ output.faults)
StopsBy Quit input input' output output' = IsWithin input input' × (input'.faults ≡ input.faults) × (output'.faults ≡ output.faults)
StopsBy Source input input' output output' = IsWithin input input' × Rose input.faults input'.faults × (output'.faults ≡ output.faults)
StopsBy Sink input input' output output' = (input'.count ≤ input.count + 2 ^ 40 + BLOCK) × (input'.faults ≡ input.faults) × Rose output.faults output'.faults
StopsBy NoRoom input input' output output' = (input'.count ≤ input.count + 2 ^ 40 + BLOCK) × (input'.faults ≡ input.faults) × (output'.faults ≡ output.faults)
StopsBy Long input input' output output' = (input.count + 2 ^ 40 < input'.count) × (input'.count ≤ input.count + 2 ^ 40 + BLOCK) × (input'.faults ≡ input.faults) × (output'.faults ≡ output.faults)

-- The lines that were answered when a session's input stopped: those that had ended, at the source's end also the last one.
-- Where the sink refused, either; but what was cut off is a line only at the source's end.
abbrev pub AreLines : Stop → Option (List ℕ) → List ℕ → List (Option (List ℕ)) → Type 0
AreLines End left bytes lines = lines ≡ lines_of bytes
AreLines Sink left bytes lines = (lines ≡ lines_from (Some []) bytes) ⊎ (IsAtEnd left × (lines ≡ lines_of bytes))
AreLines NoRoom left bytes lines = (lines ≡ lines_from (Some []) bytes) ⊎ (IsAtEnd left × (lines ≡ lines_of bytes))
AreLines stop left bytes lines = lines ≡ lines_from (Some []) bytes

-- the replies that were not put: none, but where the sink refused there are some
abbrev pub IsLeft : Stop → List ℕ → Type 0
IsLeft Sink left = 0 < length left
IsLeft NoRoom left = 0 < length left
IsLeft stop left = left ≡ []

-- Nothing is taken after the session's end: when the last bytes were asked for, at most a block, the lines that had ended
-- were answered and the session had not ended.
pub record TakenWhileOpen {L : Type 0} (founded : Bool) (disk : Telling L) (front : List ℕ) (old : Moment L) (bytes : List ℕ) (lines : List (Option (List ℕ))) (text : List ℕ) (new : Moment L) : Type 0 where
  pub before : List ℕ
  pub last : List ℕ
  pub bytes_are : bytes ≡ before ++ last
  pub short : length last ≤ BLOCK
  pub more : List (Option (List ℕ))
  pub lines_are : lines ≡ lines_from (Some []) before ++ more
  pub first : List ℕ
  pub others : List ℕ
  pub text_is : text ≡ first ++ others
  pub open_then : Moment L
  pub served : Served (KeptStep founded disk front) spelling old (lines_from (Some []) before) first open_then
  pub is_open : (open_then.visit).ended ≡ false
  pub goes_on : Served (KeptStep founded disk front) spelling open_then more others new

-- lines of bytes that were taken are answered, with nothing waiting before
pub record Talks {L : Type 0} (founded : Bool) (disk : Telling L) (front : List ℕ) (old : Moment L) (bytes : List ℕ) (lines : List (Option (List ℕ))) (new : Moment L) (output now : Output) (left : List ℕ) : Type 0 where
  pub answered : Answered (KeptStep founded disk front) spelling old lines new output.written now.written [] left
  pub taken : TakenWhileOpen founded disk front old bytes lines answered.text new

-- bytes were taken, and the lines that ended in them answered and put
pub record SoFar {P L : Type 0} (disk : Telling L) (bytes : List ℕ) (old new : Scene P L) (input input' : Input) (output output' : Output) : Type 0 where
  pub takes : Takes input input' bytes
  pub answers : (founded : Bool) (front : List ℕ) (machine : Machine) → (IsTrue founded → IsTrue disk.tells) → StandsFor founded disk front machine old.yard →
      (next : Machine) × Talks founded disk front (at_moment machine old) bytes (lines_from (Some []) bytes) (at_moment next new) output output' [] × StandsFor founded disk front next new.yard

-- a session's input was served until it stopped
pub record ServesInput {P L : Type 0} (disk : Telling L) (stop : Stop) (bytes : List ℕ) (old new : Scene P L) (input input' : Input) (output output' : Output) : Type 0 where
  pub takes : Takes input input' bytes
  pub stops : StopsBy stop input input' output output'
  pub answers : (founded : Bool) (front : List ℕ) (machine : Machine) → (IsTrue founded → IsTrue disk.tells) → StandsFor founded disk front machine old.yard →
      (next : Machine) × (lines : List (Option (List ℕ))) × (left : List ℕ) × AreLines stop input'.left bytes lines × Talks founded disk front (at_moment machine old) bytes lines (at_moment next new) output output' left × IsLeft stop left × StandsFor founded disk front next new.yard

-- how a sink's refusal stops the input
abbrev pub stop_of : SinkError → Stop
stop_of Fault = Sink
stop_of Memory = NoRoom
