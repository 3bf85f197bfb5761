-- `list_layers` meets its contract. The loop's invariant: the polygons of the decks before e are listed, at most one a deck.
use Prim.Native.Nat.{◌≤◌}
use Rattle.arrayvec.specs.ArrayVec.{array_vec_len}
use Rattle.locating.proofs.DeckLoop.{Seeking}
use Rattle.locating.proofs.list_layers.Given as goal

abbrev pub invariant-decks : goal.invariant-decks
invariant-decks l = Seeking l.ship l.p l.deck l.list.items l.d × (array_vec_len l.list ≤ l.d)
