pub mod Branch
pub mod Decides
pub mod Signed
pub mod Bytes
pub mod Tail
pub mod Sets
pub mod Maps
pub mod First
