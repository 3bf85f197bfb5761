-- `put_decks` meets its contract. The loop's invariant: the decks before d are put.
use Rattle.removal.proofs.Decks.{DecksPut}
use Rattle.removal.proofs.Removal.put_decks.Given as goal

abbrev pub invariant-decks : goal.invariant-decks
invariant-decks l = DecksPut l.self.which l.self.ship.now l.initial.out l.out l.at l.d
