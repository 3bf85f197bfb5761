-- `polygons_before` meets its contract. The loop's invariant: the total is that of the decks passed.
use Prim.Native.Nat.{◌≤◌}
use Rattle.decks.proofs.PolygonTotal.{Totalled}
use Rattle.decks.proofs.Ship.polygons_before.Given as goal

abbrev pub invariant-decks : goal.invariant-decks
invariant-decks l = (l.j ≤ l.d) × Totalled l.self l.d l.total l.j
