pub mod Sheet
pub mod Loads
pub mod Totals
pub mod Portions
pub mod Counting
