pub mod Pieces
pub mod Texts
pub mod Writes
pub mod Tabled
pub mod Writable
pub mod Same
pub mod Judged
pub mod Write
