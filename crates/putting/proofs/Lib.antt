pub mod Putting
pub mod Laying
pub mod Counting
pub mod Figuring
pub mod Words
pub mod Signs
pub mod Only
mod Cases
