pub mod Numeral
pub mod Fields
pub mod Seen
