-- `put_at` meets its contract. The loop's invariant: what the vertices from k on count and write is left.
use Rattle.stitching.specs.Walk.{stitches_on}
use Rattle.stitching.proofs.Putting.{Putting}
use Rattle.stitching.proofs.Loops.{left_at}
use Rattle.stitching.proofs.put_at.Given as goal

abbrev pub invariant-vertices : goal.invariant-vertices
invariant-vertices l = Putting (stitches_on l.a l.b l.p l.to) l.n l.initial.out (left_at l.a l.b l.p l.to l.vertices l.k) l.count l.out
