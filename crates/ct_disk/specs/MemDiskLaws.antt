-- The laws of a disk, for one in memory.
use Rattle.std.proofs.Common.{ℕ, List, length}
use Rattle.ct_disk.specs.HistoryLaws.{Leaves_as_shown, LeavesSince-counts, LeavesSince-only}
use Rattle.ct_disk.specs.MemDisk.{content_of, history_of, MayLeave, LeftSince}
use Rattle.ct_disk.specs.declared.mem_disk.MemDisk.{MemDisk}

-- a crash may always leave what a read gives
pub MayLeave-content : (disk : MemDisk) → MayLeave disk (content_of disk)
MayLeave-content disk = Leaves_as_shown (history_of disk) (content_of disk) disk.medium.told

-- this moment is one of those since any moment
pub LeftSince-counts : (from disk : MemDisk) (c : List ℕ) → MayLeave disk c → LeftSince from disk c
LeftSince-counts from disk c left = LeavesSince-counts (length (history_of from)) (history_of disk) c left

-- since this moment there is no other
pub LeftSince-only : (disk : MemDisk) (c : List ℕ) → LeftSince disk disk c → MayLeave disk c
LeftSince-only disk c left = LeavesSince-only (history_of disk) c left
