pub mod Examples
pub mod EdgeWalk
pub mod Counting
pub mod Reaching
pub mod Doubling
