-- Which ends a command has, and whose count of faults rose at each.
use Rattle.std.specs.Prelude.{◌≡◌, ◌⊎◌, ℕ, List, Option}
use Rattle.std.specs.Io.KnownBytes.{Appends, Keeps}
use Rattle.ct_disk.specs.Disk.{Rose as DiskRose}
use Rattle.ct_link.specs.Faults.{Rose}
use Rattle.ct_link.specs.Sink.{AppendsPart}
use Rattle.ct_tool.specs.declared.ended.Cause.{Cause}
use Rattle.ct_tool.specs.declared.ended.Cause.TheVariants.{Done, Usage, Unbuilt, Undone, NotEmpty, BadLog, BadPage, Limit, Device, Memory, Source, Sink, Long}

-- the words were no command, or one that is not built yet
abbrev pub IsWordCause : Cause → Type 0
IsWordCause Usage = Unit {0}
IsWordCause Unbuilt = Unit {0}
IsWordCause cause = ⊥

-- a store could not be opened, or there was no memory
abbrev pub IsOpenCause : Cause → Type 0
IsOpenCause Undone = Unit {0}
IsOpenCause (BadLog place) = Unit {0}
IsOpenCause Device = Unit {0}
IsOpenCause Memory = Unit {0}
IsOpenCause cause = ⊥

-- a session ends so
abbrev pub IsSessionCause : Cause → Type 0
IsSessionCause Done = Unit {0}
IsSessionCause Limit = Unit {0}
IsSessionCause Device = Unit {0}
IsSessionCause Memory = Unit {0}
IsSessionCause Source = Unit {0}
IsSessionCause Sink = Unit {0}
IsSessionCause Long = Unit {0}
IsSessionCause cause = ⊥

-- a run ends so that had one line to put, or no memory for it
abbrev pub IsPutCause : Cause → Type 0
IsPutCause Done = Unit {0}
IsPutCause Memory = Unit {0}
IsPutCause Sink = Unit {0}
IsPutCause cause = ⊥

-- `exec` ends so
abbrev pub IsExecCause : Cause → Type 0
IsExecCause cause = IsOpenCause cause ⊎ IsSessionCause cause

-- `check` ends so
abbrev pub IsCheckCause : Cause → Type 0
IsCheckCause cause = IsOpenCause cause ⊎ IsPutCause cause

-- `create` ends so
abbrev pub IsCreateCause : Cause → Type 0
IsCreateCause NotEmpty = Unit {0}
IsCreateCause Device = Unit {0}
IsCreateCause cause = IsPutCause cause

-- the store was made, for sure
abbrev pub MadeBy : Cause → Type 0
MadeBy Done = Unit {0}
MadeBy Sink = Unit {0}
MadeBy cause = ⊥

-- the line was put, or a first part of it, or nothing, by how the run ended
abbrev pub PutsOrKeeps : Cause → Option (List ℕ) → Option (List ℕ) → List ℕ → Type 0
PutsOrKeeps Done old new line = Appends old new line
PutsOrKeeps Sink old new line = AppendsPart old new line
PutsOrKeeps Memory old new line = AppendsPart old new line ⊎ Keeps old new
PutsOrKeeps cause old new line = Keeps old new

-- the sink failed in it, or did not
abbrev pub HasPutCause : Cause → ℕ → ℕ → Type 0
HasPutCause Sink sink sink' = Rose sink sink'
HasPutCause cause sink sink' = sink' ≡ sink

-- whose count of faults rose: a device's for DEVICE, the source's for SOURCE, the sink's for SINK; source and sink else failed in nothing
abbrev pub HasRunCause : Cause → ℕ → ℕ → ℕ → ℕ → ℕ → ℕ → ℕ → ℕ → Type 0
HasRunCause Device pages pages' log log' source source' sink sink' = DiskRose pages pages' ⊎ DiskRose log log'
HasRunCause Source pages pages' log log' source source' sink sink' = Rose source source'
HasRunCause Sink pages pages' log log' source source' sink sink' = Rose sink sink'
HasRunCause cause pages pages' log log' source source' sink sink' = (source' ≡ source) × (sink' ≡ sink)
