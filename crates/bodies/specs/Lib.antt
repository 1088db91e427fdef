pub mod Bodies
pub mod Hexes
