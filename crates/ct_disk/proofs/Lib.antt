pub mod Histories
pub mod Moments
pub mod Overlays
pub mod Ranges
pub mod Torn
