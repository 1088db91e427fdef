pub mod Keeping
pub mod ByLists
pub mod Stored
pub mod StoredByLists
pub mod Only
mod Cases
