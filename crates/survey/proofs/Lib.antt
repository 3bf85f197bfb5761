pub mod Steps
pub mod Preference
pub mod SurveyHolds
pub mod SurveyUnique
pub mod Loops
pub mod Recorded
pub mod NoneOpen
