pub mod Numbers
pub mod NumberLoop
pub mod Midpoints
