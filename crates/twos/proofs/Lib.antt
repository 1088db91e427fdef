mod Twice
pub mod Only
mod Cases
