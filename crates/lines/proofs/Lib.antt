pub mod Writing
pub mod Figures
pub mod Numbers
pub mod Listing
pub mod Faults
pub mod Only
mod Cases
