mod Filled
pub mod Only
pub mod Called
