mod OfNodes
mod Marked
pub mod Only
mod Cases
