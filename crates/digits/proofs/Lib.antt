pub mod Digits
mod Hexed
pub mod Only
pub mod Laning
pub mod Grouping
pub mod Gathered
mod Beside
pub mod Coupling
mod Cases
