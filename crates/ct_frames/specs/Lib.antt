pub mod Tables
pub mod Pages
pub mod Fetches
