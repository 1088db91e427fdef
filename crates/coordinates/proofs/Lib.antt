mod Places
mod Scanning
mod Kept
mod Words
mod Leading
mod Mildly
mod Eights
pub mod Only
mod Cases
