pub mod Points
pub mod Walk
