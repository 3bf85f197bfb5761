pub mod Merging
pub mod Flood
