pub mod Said
pub mod Only
mod Cases
