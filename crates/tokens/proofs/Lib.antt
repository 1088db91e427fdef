pub mod Laws
pub mod Runner
pub mod Ended
pub mod Bounds
pub mod Listed
pub mod Marks
pub mod Marked
pub mod Blanked
mod Runs
mod TextOf
pub mod Text
pub mod Only
pub mod Cases
