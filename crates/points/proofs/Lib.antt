mod Pointed
pub mod Good
pub mod Only
mod Cases
