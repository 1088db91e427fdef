pub mod Heads
pub mod Pasts
