pub mod Before
pub mod Sites
