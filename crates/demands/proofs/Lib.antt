mod Files
mod Limits
pub mod Asks
pub mod Others
pub mod Writing
pub mod Demands
pub mod Joined
