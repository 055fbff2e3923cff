pub mod Order
pub mod Finds
pub use Rattle.ct_definitions.specs.Pairs
