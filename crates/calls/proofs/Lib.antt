pub mod MillionTest
pub mod Queries
pub mod EntryLoop
pub mod ClosestCalls
pub mod HeightCalls
