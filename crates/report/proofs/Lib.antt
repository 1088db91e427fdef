pub mod Printing
pub mod Only
