pub mod Kept
pub mod Lists
