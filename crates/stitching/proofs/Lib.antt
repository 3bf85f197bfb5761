pub mod Putting
pub mod Loops
pub mod Found
