mod Wording
mod Rowed
pub mod Good
pub mod Only
mod Cases
