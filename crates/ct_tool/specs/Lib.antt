pub mod Causes
pub mod Talking
pub mod Ends
pub mod Runs
