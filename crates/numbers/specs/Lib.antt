pub mod Whole
pub mod Bad
