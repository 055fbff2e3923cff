pub mod Directory
pub mod DefinitionPage
pub mod MapPage
pub mod Grammar
