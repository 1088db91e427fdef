pub mod OfSides
mod Marked
pub mod Only
mod Cases
