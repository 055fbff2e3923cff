pub mod Orders
pub use Rattle.ct_lane.specs.Actors
