pub mod Noting
pub mod Only
mod Cases
