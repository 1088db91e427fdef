pub mod Only
pub mod Text
pub mod Bytes
pub mod OnlyLeft
pub mod Alike
