pub mod Digits
pub mod Hexes
pub mod Lanes
pub mod Couples
