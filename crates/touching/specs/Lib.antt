pub mod Touching
pub mod Reach
