pub mod Creating
pub mod Faults
pub mod Opened
pub mod Opening
pub mod Replaying
