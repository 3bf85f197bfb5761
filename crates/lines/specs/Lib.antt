pub mod Text
pub mod Lines
pub mod Groups
pub mod Input
