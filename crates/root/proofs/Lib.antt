pub mod Loops
pub mod Values
pub mod Rounding
pub mod Floats
pub mod FirstPassing
pub mod Midpoints
pub mod Unique
pub mod Examples
