pub mod Order
pub mod Parts
pub mod Target
pub use Rattle.ct_definitions.specs.Keys
pub use Rattle.ct_definitions.specs.Validity
