pub mod Records
pub mod Texts
pub mod Printing
pub mod Examples
