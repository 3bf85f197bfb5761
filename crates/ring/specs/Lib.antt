pub mod Table
pub mod Rule
pub mod Sample
pub mod Probe
