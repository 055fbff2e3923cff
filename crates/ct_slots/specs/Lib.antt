pub mod Pages
pub mod Checks
pub use Rattle.ct_definitions.specs.Room
pub use Rattle.ct_definitions.specs.Changes
