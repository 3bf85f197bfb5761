pub mod Wishes
pub mod View
pub mod Search
pub mod Record
pub mod Survey
