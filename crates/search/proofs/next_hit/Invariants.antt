-- `next_hit` meets its contract. The loop's invariant: no polygon from number k on and before `polygon` passes.
use Rattle.search.proofs.PolygonLoop.{PolygonsLeft}
use Rattle.search.proofs.next_hit.Given as goal

abbrev pub invariant-polygons : goal.invariant-polygons
invariant-polygons l = PolygonsLeft l.deck l.q l.count l.k l.polygon
