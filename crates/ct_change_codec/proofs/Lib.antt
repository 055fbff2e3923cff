pub mod DefinitionLaws
pub mod ChangeLaws
