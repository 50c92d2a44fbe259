pub mod Adding
pub mod Holding
pub mod Making
pub mod Same
