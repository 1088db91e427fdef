pub mod Demands
pub mod Writing
