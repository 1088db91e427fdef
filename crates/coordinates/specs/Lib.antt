pub mod Parts
pub mod Behind
