pub mod Shortness
pub mod Shows
pub mod Served
pub mod Moves
pub mod Spellings
