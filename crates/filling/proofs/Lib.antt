mod Single
mod Mapped
mod Topped
mod Passing
mod Sectioned
mod Whole
pub mod Cored
pub mod Few
pub mod Through
pub mod Zoned
pub mod Only
