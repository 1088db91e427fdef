pub mod Over
pub mod Faults
pub mod Sides
pub mod Wrong
pub mod Order
pub mod Marked
pub mod All
pub mod Counts
