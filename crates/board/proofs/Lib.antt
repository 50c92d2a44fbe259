pub mod Laid
pub mod Paired
