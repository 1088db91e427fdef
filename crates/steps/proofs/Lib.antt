pub mod Taken
pub mod Quickly
pub mod Single
pub mod Pairing
pub mod Chain
pub mod Alike
mod Cases
