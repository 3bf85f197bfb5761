pub mod Candidates
pub mod Hits
