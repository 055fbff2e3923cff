pub mod Decimal
pub mod RoundTrip
pub mod Lines
pub mod Pieces
pub mod Reading
pub mod Unique
