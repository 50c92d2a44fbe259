pub mod Entering
pub mod Faults
pub mod Laws
pub mod Laying
pub mod Meaning
pub mod Writes
pub mod LayingLemmas
