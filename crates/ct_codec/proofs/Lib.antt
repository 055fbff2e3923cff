pub mod Steps
pub mod Exact
pub mod Loops
pub mod Fronts
pub mod Writes
