pub mod Counting
pub mod Overlays
pub mod Owned
pub use Rattle.ct_definitions.specs.Changes
