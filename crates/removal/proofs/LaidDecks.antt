-- What a deck is known by that a removal reads: it is one of a passed file's.
use Rattle.ship.specs.Questions.{DeckOfPassed}
use Rattle.removal.specs.declared.LaidDeck.{LaidDeck}

pub deck_of : (deck : LaidDeck) → DeckOfPassed deck.old.file.now deck.old.blocks
deck_of deck = record { number = deck.old.rule.deck; there = deck.there; is = deck.lies; passed = deck.passed }
