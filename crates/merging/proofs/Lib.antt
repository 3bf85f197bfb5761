pub mod Places
pub mod FloodLoop
pub mod Staying
pub mod MergeLoop
