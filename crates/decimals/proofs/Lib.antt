pub mod Pieces
pub mod Written
pub mod Tens
pub mod Scaled
pub mod Value
pub mod Exactly
pub mod Readings
pub mod Led
pub mod Harmless
pub mod Only
mod Cases
