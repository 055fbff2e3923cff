pub mod Shelf
pub mod Memory
