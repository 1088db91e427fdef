pub mod Found
pub mod Passing
pub mod Zones
