pub mod Then
pub mod Puts
pub mod Many
