-- How a run ends.
use Rattle.std.specs.Prelude.{ℕ, Option, Some, None, Result, Ok, Err}
use Rattle.ct_disk.specs.declared.turn.HaltCause.{HaltCause}
use Rattle.ct_disk.specs.declared.turn.HaltCause.TheVariants as Halt
use Rattle.ct_link.specs.declared.sink.SinkError.{SinkError}
use Rattle.ct_link.specs.declared.sink.SinkError.TheVariants as Put
use Rattle.ct_recover.specs.declared.fault.OpenFault.{OpenFault}
use Rattle.ct_recover.specs.declared.fault.OpenFault.TheVariants as Open
use Rattle.ct_tool.specs.declared.input.Stop.{Stop}
use Rattle.ct_tool.specs.declared.input.Stop.TheVariants as Input
use Rattle.ct_tool.specs.declared.ended.Cause.{Cause}
use Rattle.ct_tool.specs.declared.ended.Cause.TheVariants.{Done, Usage, Unbuilt, Undone, NotEmpty, BadLog, BadPage, Limit, Device, Memory, Source, Sink, Long}

-- the exit status of a cause
abbrev pub status_of : Cause → ℕ
status_of Done = 0
status_of Usage = 1
status_of Unbuilt = 2
status_of Undone = 2
status_of NotEmpty = 2
status_of (BadLog place) = 2
status_of (BadPage page) = 2
status_of Limit = 2
status_of Device = 3
status_of Memory = 4
status_of Source = 5
status_of Sink = 6
status_of Long = 8

-- why a run ended whose input was served to its end
abbrev pub halted_by : Option HaltCause → Cause
halted_by None = Done
halted_by (Some Halt.Write) = Device
halted_by (Some Halt.Read) = Device
halted_by (Some Halt.Memory) = Memory
halted_by (Some (Halt.BadPage page)) = BadPage page
halted_by (Some (Halt.BadLog place)) = BadLog place
halted_by (Some Halt.Limit) = Limit

-- why a run ended, by what stopped its input and what halted its store
abbrev pub stopped_by : Stop → Option HaltCause → Cause
stopped_by Input.End halt = halted_by halt
stopped_by Input.Quit halt = halted_by halt
stopped_by Input.Source halt = Source
stopped_by Input.Sink halt = Sink
stopped_by Input.Memory halt = Memory
stopped_by Input.Long halt = Long

-- why a run ended whose store was not made or not opened
abbrev pub open_cause : OpenFault → Cause
open_cause Open.NotEmpty = NotEmpty
open_cause Open.Undone = Undone
open_cause (Open.BadLog place) = BadLog place
open_cause Open.Device = Device
open_cause Open.Memory = Memory

-- why a run ended that had one line to put
abbrev pub put_cause : Result Unit SinkError → Cause
put_cause (Ok _) = Done
put_cause (Err Put.Fault) = Sink
put_cause (Err Put.Memory) = Memory
