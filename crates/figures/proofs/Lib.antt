pub mod Figures
pub mod Shorter
pub mod Sixteen
pub mod Signed
mod Cases
