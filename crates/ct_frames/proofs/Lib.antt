pub mod PageLaws
pub mod PageReads
pub mod Replays
pub mod Oldest
