pub mod Fractions
pub mod Rounding
pub mod Monotone
pub mod Exactness
pub mod Corners
pub mod Polygons
pub mod Samples
pub mod Examples
