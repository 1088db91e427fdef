pub mod Gates
pub mod Sections
pub mod Ids
pub mod Noting
pub mod Alike
mod Cases
