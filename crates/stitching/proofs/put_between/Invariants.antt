-- `put_between` meets its contract. The loop's invariant: what the vertices from k on count and write is left.
use Rattle.ship.specs.Decode.{decode}
use Rattle.stitching.specs.Points.{stitches_between}
use Rattle.stitching.proofs.Putting.{Putting}
use Rattle.stitching.proofs.Loops.{left_between}
use Rattle.stitching.proofs.put_between.Given as goal

abbrev pub invariant-vertices : goal.invariant-vertices
invariant-vertices l = Putting (stitches_between (decode l.ship) l.a l.b) l.n l.initial.out (left_between l.ship l.a l.b l.vertices l.k) l.count l.out
