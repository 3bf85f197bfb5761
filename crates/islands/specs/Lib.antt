pub mod Reach
pub mod Labels
pub mod Islands
pub mod Walk
