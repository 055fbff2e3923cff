pub mod Trees
pub mod Left
pub mod Reached
pub mod Stands
pub mod Stops
