-- `step_hit` meets its contract. The loop's invariant: the decks before e gave nothing.
use Rattle.towards.proofs.Seeks.{DeckSeeking}
use Rattle.towards.proofs.Line.step_hit.Given as goal

abbrev pub invariant-decks : goal.invariant-decks
invariant-decks l = DeckSeeking l.self.ship.now l.self.p l.self.direction l.deck l.s l.d
