pub mod Apart
pub use Rattle.ct_definitions.specs.Histories
