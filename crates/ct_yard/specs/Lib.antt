pub mod Telling
pub mod Flushing
pub mod Kept
pub mod LogTexts
pub mod Machine
pub mod Writes
pub mod Yards
