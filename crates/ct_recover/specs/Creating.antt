-- What making a store leaves.
use Rattle.std.specs.Prelude.{◌≡◌, ◌⊎◌, ℕ, List, [], ◌∷◌, ◌++◌, false}
use Rattle.ct_definitions.specs.Histories.{History}
use Rattle.ct_disk.specs.declared.fault.DiskError.{DiskError}
use Rattle.ct_disk.specs.declared.fault.DiskError.TheVariants as Refused
use Rattle.ct_disk.specs.Disk.{AllImages, LeavesOnly, Only}
use Rattle.ct_log.specs.Front.{front, front_with}
use Rattle.ct_log.specs.Heads.{has_open_header}
use Rattle.ct_yard.specs.Kept.{Recovers}
use Rattle.ct_yard.specs.Telling.{Telling}
use Rattle.ct_recover.specs.declared.fault.OpenFault.{OpenFault}
use Rattle.ct_recover.specs.declared.fault.OpenFault.TheVariants.{NotEmpty, Undone, BadLog, Device, Memory}

-- the log of a store without transactions
abbrev pub empty_log : List ℕ → List ℕ
empty_log id = front id 0 ++ 0 ∷ []

-- the history of a store that was just made
abbrev pub empty_history : History
empty_history = record { base = []; base_number = 0; transactions = [] }

-- a refused call of a device is a device that failed, or want of memory
abbrev pub make_fault : DiskError → OpenFault
make_fault Refused.Fault = Device
make_fault Refused.Memory = Memory

-- why a store may not be made
abbrev pub IsMakeFault : OpenFault → Type 0
IsMakeFault NotEmpty = Unit {0}
IsMakeFault Device = Unit {0}
IsMakeFault Memory = Unit {0}
IsMakeFault Undone = ⊥
IsMakeFault (BadLog place) = ⊥

-- the header's gate is not open, or the store is whole
abbrev pub IsClosedOrWhole : List ℕ → List ℕ → Type 0
IsClosedOrWhole id bytes = (has_open_header bytes ≡ false) ⊎ (bytes ≡ empty_log id)

-- The log's first sync in a making has ended: it has left the new log with its header's gate closed, and at each moment since
-- then a crash may have left the gate closed or the store whole.
pub record IsSyncedOnce {L : Type 0} (disk : Telling L) (id : List ℕ) (now : L) : Type 0 where
  pub synced : L
  pub closed : disk.content synced ≡ front_with 0 id 0 ++ 0 ∷ []
  pub stable : Only (disk.content synced) (disk.may_leave synced)
  pub since : LeavesOnly disk.left_since (IsClosedOrWhole id) synced now
  pub left : AllImages (IsClosedOrWhole id) (disk.may_leave now)

-- the images of both devices are no store, or open as the store that was made
abbrev pub IsNoneOrMade : List ℕ → List ℕ → List ℕ → Type 0
IsNoneOrMade id pages log = (has_open_header log ≡ false) ⊎ Recovers (front id 0) empty_history 0 pages log
