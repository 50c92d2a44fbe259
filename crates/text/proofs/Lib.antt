pub mod Options
pub mod Numerals
pub mod Readings
pub mod Cuts
pub mod Ranges
