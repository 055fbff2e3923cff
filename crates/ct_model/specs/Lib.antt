pub mod EachIndex
pub mod Fitting
pub mod Free
pub mod Stored
pub use Rattle.ct_definitions.specs.Keys
pub use Rattle.ct_definitions.specs.Validity
pub use Rattle.ct_definitions.specs.Room
pub use Rattle.ct_definitions.specs.Changes
