pub mod DefinitionFormat
pub mod ChangeFormat
pub use Rattle.ct_codec.specs.Codec
pub use Rattle.ct_codec.specs.Answers
