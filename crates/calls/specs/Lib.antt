pub mod Closest
pub mod HeightCall
