pub mod Kinds
pub mod Refused
pub mod Labels
pub mod Bitwise
