pub mod Quotes
pub mod Marks
pub mod Eights
