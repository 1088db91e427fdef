pub mod Sofar
pub mod States
