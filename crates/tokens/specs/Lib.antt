pub mod Tokens
pub mod Listed
pub mod Text
