mod Turns
pub mod Few
pub mod Only
