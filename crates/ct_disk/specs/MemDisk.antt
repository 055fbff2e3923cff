-- What a disk in memory stands for.
use Rattle.std.specs.Prelude.{◌≡◌, ℕ, List, ◌∷◌, length, Result, Ok, Err, IsOk, IsErr}
use Rattle.ct_disk.specs.Disk.{raised}
use Rattle.ct_disk.specs.History.{Event, history, Leaves, LeavesSince, Syncs}
use Rattle.ct_disk.specs.declared.fault.DiskError.{DiskError}
use Rattle.ct_disk.specs.declared.fault.DiskError.TheVariants.{Fault, Memory}
use Rattle.ct_disk.specs.declared.fault.DiskFault.{DiskFault}
use Rattle.ct_disk.specs.Plans.{plan_at}
use Rattle.ct_disk.specs.declared.plans.Plan.{Plan}
use Rattle.ct_disk.specs.declared.plans.Plan.TheVariants.{Works, Fails, Tears}
use Rattle.ct_disk.specs.declared.mem_disk.MemDisk.{MemDisk}

-- the bytes that a read gives
abbrev pub content_of : MemDisk → List ℕ
content_of disk = disk.medium.bytes.items

-- what the disk has gone through, the last event first
abbrev pub history_of : MemDisk → List Event
history_of disk = history disk.medium.entries.items disk.medium.is_synced

-- what a crash now may leave
abbrev pub MayLeave : MemDisk → List ℕ → Type 0
MayLeave disk c = Leaves (history_of disk) c

-- what a crash may have left since the disk had the first value
abbrev pub LeftSince : MemDisk → MemDisk → List ℕ → Type 0
LeftSince from disk c = LeavesSince (length (history_of from)) (history_of disk) c

-- how the call with this number is to go
abbrev pub plan_of : MemDisk → ℕ → Plan
plan_of disk call = plan_at disk.plans call

-- the content and what a crash may leave of it are as they were
pub record KeepsAll (old new : MemDisk) : Type 0 where
  pub content : content_of new ≡ content_of old
  pub history : history_of new ≡ history_of old

-- a read or a look at the length works where it is to work, and fails where it is to fail or to tear
abbrev pub LooksAsPlanned : {T : Type 0} → Plan → Result T DiskFault → Type 0
LooksAsPlanned Works result = IsOk result
LooksAsPlanned Fails result = IsErr result
LooksAsPlanned Tears result = IsErr result

-- A sync that is to work does. One that is to fail or to tear fails, and makes nothing stable.
abbrev pub SyncsAsPlanned : Plan → Result Unit DiskFault → MemDisk → MemDisk → Type 0
SyncsAsPlanned Works (Ok _) old new = Syncs (history_of old) (history_of new)
SyncsAsPlanned Works (Err _) old new = ⊥
SyncsAsPlanned Fails (Ok _) old new = ⊥
SyncsAsPlanned Fails (Err _) old new = KeepsAll old new
SyncsAsPlanned Tears (Ok _) old new = ⊥
SyncsAsPlanned Tears (Err _) old new = KeepsAll old new

-- A write or a cut that is to work is the whole event, unless it has no memory. One that is to fail fails, and keeps all.
-- One that is to tear fails and is the torn event, unless it has no memory. Without memory it keeps all.
abbrev pub ChangesAsPlanned : Plan → Event → Event → Result Unit DiskError → MemDisk → MemDisk → Type 0
ChangesAsPlanned Works whole torn (Ok _) old new = history_of new ≡ whole ∷ history_of old
ChangesAsPlanned Works whole torn (Err Fault) old new = ⊥
ChangesAsPlanned Works whole torn (Err Memory) old new = KeepsAll old new
ChangesAsPlanned Fails whole torn (Ok _) old new = ⊥
ChangesAsPlanned Fails whole torn (Err Fault) old new = KeepsAll old new
ChangesAsPlanned Fails whole torn (Err Memory) old new = ⊥
ChangesAsPlanned Tears whole torn (Ok _) old new = ⊥
ChangesAsPlanned Tears whole torn (Err Fault) old new = history_of new ≡ torn ∷ history_of old
ChangesAsPlanned Tears whole torn (Err Memory) old new = KeepsAll old new

-- the count of faults rises by one at a fault, and else stays
abbrev pub CountsOne : {T : Type 0} → ℕ → ℕ → Result T DiskFault → Type 0
CountsOne before now (Ok _) = now ≡ before
CountsOne before now (Err _) = now ≡ raised before

-- the same, for a call that may also want memory
abbrev pub CountsOneFault : {T : Type 0} → ℕ → ℕ → Result T DiskError → Type 0
CountsOneFault before now (Ok _) = now ≡ before
CountsOneFault before now (Err Fault) = now ≡ raised before
CountsOneFault before now (Err Memory) = now ≡ before

-- no call was made yet, and none is to fail
pub record IsFresh (disk : MemDisk) : Type 0 where
  pub calls : disk.calls ≡ 0
  pub reads : disk.reads ≡ 0
  pub faults : disk.faults ≡ 0
  pub works : (call : ℕ) → plan_of disk call ≡ Works

-- the content, its history and the counts are as they were
pub record SameDisk (old new : MemDisk) : Type 0 where
  pub content : content_of new ≡ content_of old
  pub history : history_of new ≡ history_of old
  pub calls : new.calls ≡ old.calls
  pub reads : new.reads ≡ old.reads
  pub faults : new.faults ≡ old.faults
