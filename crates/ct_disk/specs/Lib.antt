pub mod Disk
pub mod Draws
pub mod History
pub mod HistoryLaws
pub mod MemDisk
pub mod MemDiskLaws
pub mod Plans
pub mod Replay
