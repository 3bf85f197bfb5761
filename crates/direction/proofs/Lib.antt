pub mod Parts
pub mod Short
pub mod Examples
