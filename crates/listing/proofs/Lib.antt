pub mod Listing
pub mod Only
mod Cases
