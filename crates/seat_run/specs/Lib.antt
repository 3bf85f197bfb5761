pub mod SeatFile
pub mod Run
pub mod Survey
pub mod Blocked
pub mod NoDecks
