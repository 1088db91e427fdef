pub mod Counted
pub mod Blocked
pub mod Only
mod Cases
