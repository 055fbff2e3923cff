pub use Rattle.ct_frames.specs.Pages
pub mod Images
