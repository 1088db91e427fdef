pub mod Rows
mod Cases
