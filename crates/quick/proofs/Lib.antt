pub mod Ending
pub mod Figures
pub mod Near
pub mod Knowing
pub mod Alone
pub mod Only
mod Cases
