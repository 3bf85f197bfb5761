pub mod Digits
pub mod Readback
pub mod Lengths
pub mod Question21
pub mod Examples
