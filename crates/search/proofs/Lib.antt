pub mod Corners
pub mod EdgeWalk
pub mod HeightLoop
pub mod PolygonLoop
pub mod HeightBound
