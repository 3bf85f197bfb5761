pub mod EdgeWalk
pub mod SiftLoop
pub mod Turns
