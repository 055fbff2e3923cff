pub mod Finding
pub mod Joined
pub mod OtherKeys
pub mod PairLists
pub mod Places
pub mod RowPairs
