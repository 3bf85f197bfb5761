pub mod Asks
pub mod Turns
pub mod Seeks
pub mod Order
pub mod SnapTheorem
pub mod Replies
