pub mod Causes
pub mod Composing
pub mod Endings
pub mod Growing
pub mod Keeping
pub mod Making
pub mod Sessions
pub mod Talks
