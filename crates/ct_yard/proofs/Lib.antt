pub mod Commits
pub mod Flushes
pub mod Lengths
pub mod LogTexts
