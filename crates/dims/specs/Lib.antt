pub mod Dims
