pub mod Forgotten
pub mod Loose
pub mod Flatly
pub mod Shapes
pub mod Alike
mod Partly
mod Cases
