pub mod Probing
pub mod DeckLoop
