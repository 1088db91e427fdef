pub mod Rows
pub mod Sections
pub mod Records
pub mod Flat
pub mod Tables
