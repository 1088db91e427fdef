pub mod Windows
mod Leading
mod Going
pub mod Only
mod Cases
