mod Numbers
mod Walks
mod Turning
pub mod Ending
pub mod Zipping
pub mod Tidying
pub mod Depths
pub mod Levels
pub mod Laid
pub mod Mirrors
pub mod Halted
pub mod Rows
pub mod Showing
pub mod Stepping
pub mod Masks
pub mod ParStepping
pub mod Simulating
pub mod Entered
pub mod Seated
pub mod Overlaying
pub mod Following
pub mod Leaving
pub mod Agreements
pub mod Beginning
pub mod Fitting
pub mod Mirroring
pub mod Seating
pub mod Revivals
pub mod Fronting
pub mod Sizing
pub mod Keepings
pub mod Growing
pub mod Calls
pub mod Ruling
pub mod Checking
