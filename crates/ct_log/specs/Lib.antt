pub mod Chunks
pub mod Flow
pub mod Front
pub mod Heads
pub mod Log
pub mod Reading
pub mod Stages
