pub mod Tests
pub mod Sizes
pub mod TableRule
pub mod SampleBounds
pub mod Constants
