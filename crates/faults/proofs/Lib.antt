pub mod Over
pub mod Sides
pub mod Order
pub mod Tests
pub mod Members
pub mod Exactly
pub mod Any
pub mod Only
pub mod Marked
pub mod All
pub mod Counting
mod Cases
