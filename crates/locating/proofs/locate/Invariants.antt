-- `locate` meets its contract. The loop's invariant: the decks before e gave nothing.
use mathlib.Core.List.{[]}
use Rattle.locating.proofs.DeckLoop.{Seeking}
use Rattle.locating.proofs.locate.Given as goal

abbrev pub invariant-decks : goal.invariant-decks
invariant-decks l = Seeking l.ship l.p l.deck [] l.d
