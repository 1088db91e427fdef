pub mod Wholes
pub mod Places
mod Bases
pub mod AtOnce
pub mod Only
pub mod Bad
mod Cases
