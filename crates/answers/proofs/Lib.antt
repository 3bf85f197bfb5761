pub mod Asking
pub mod Replying
pub mod Codes
