pub mod Coordinate
pub mod Lead
pub mod Value
pub mod Mild
