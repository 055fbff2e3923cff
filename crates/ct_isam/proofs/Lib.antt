pub mod Seats
pub mod Outcomes
pub mod Added
pub mod Described
pub mod Served
