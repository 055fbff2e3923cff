pub mod ChunkReplays
pub mod Commits
pub mod Creations
pub mod Fills
pub mod Kept
pub mod Openings
pub mod Replays
pub mod Yards
