pub mod Stepping
pub mod Alike
mod Cases
