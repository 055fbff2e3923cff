pub mod Numbers
pub mod Zeros
pub mod HeaderLemmas
pub mod Positions
