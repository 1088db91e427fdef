pub mod Counting
pub mod Only
mod Cases
