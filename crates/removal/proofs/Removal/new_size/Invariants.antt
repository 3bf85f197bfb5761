-- `new_size` meets its contract. The loop's invariant: the decks before d lost `lost` bytes.
use Rattle.removal.proofs.Losses.{Shrunk}
use Rattle.removal.proofs.Removal.new_size.Given as goal

abbrev pub invariant-decks : goal.invariant-decks
invariant-decks l = Shrunk l.self.which l.self.ship.now l.lost l.d
