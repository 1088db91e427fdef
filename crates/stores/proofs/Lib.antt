pub mod Copied
pub mod Only
mod Cases
