mod Joined
pub mod Only
mod Cases
