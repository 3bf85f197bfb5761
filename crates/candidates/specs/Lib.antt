pub mod Candidates
pub mod Written
