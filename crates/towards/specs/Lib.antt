pub mod Towards
pub mod Statement
