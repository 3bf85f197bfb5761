pub mod Sees
pub mod Walk
pub mod Lists
pub mod Ready
pub mod Asked
