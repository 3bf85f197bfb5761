pub mod Removal
pub mod NewFile
