pub mod Points
