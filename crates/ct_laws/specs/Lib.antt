pub mod Allowed
pub mod Examples
pub mod Cut
pub mod Shares
