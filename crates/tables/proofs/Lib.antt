pub mod Only
mod Cases
