mod Figured
pub mod Alike
mod Cases
