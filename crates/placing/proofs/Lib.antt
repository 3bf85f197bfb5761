pub mod Choosing
pub mod CandidateLoop
pub mod StepLoop
pub mod SeatRecords
