pub mod Commit
pub mod Enclosed
pub mod Groups
