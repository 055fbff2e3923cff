pub mod Readings
pub mod Parting
