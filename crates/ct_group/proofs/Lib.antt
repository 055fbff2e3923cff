pub mod Texts
pub mod Enclosing
pub mod GroupTexts
pub mod GroupLaws
