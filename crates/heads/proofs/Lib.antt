pub mod Headers
pub mod Placed
pub mod Alike
mod Cases
