mod Loop
mod Listing
mod Whole
pub mod Shown
pub mod Held
pub mod Only
pub mod Cases
