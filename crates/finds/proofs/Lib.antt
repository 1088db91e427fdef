mod Passing
mod Eights
mod Shown
pub mod Only
mod Cases
