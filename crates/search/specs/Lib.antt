pub mod OnDeck
