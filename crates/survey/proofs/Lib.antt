pub mod Based
pub mod Sites
pub mod Lengths
pub mod Filing
pub mod Accepted
pub mod Only
