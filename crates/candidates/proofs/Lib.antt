pub mod CandidateAsks
pub mod PolygonTotal
pub mod ListedNumbers
pub mod CandidateReplies
pub mod FoundNumbers
