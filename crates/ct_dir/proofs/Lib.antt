pub mod Files
pub mod Entries
pub mod Slots
pub mod Repositions
