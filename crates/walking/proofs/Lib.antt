pub mod ShownLaws
pub mod Reaching
pub mod Sifts
pub mod Walks
pub mod Passing
