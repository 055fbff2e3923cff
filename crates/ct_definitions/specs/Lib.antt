pub mod Keys
pub mod Validity
pub mod Room
pub mod Changes
pub mod Histories
pub mod Pairs
pub mod Reached
