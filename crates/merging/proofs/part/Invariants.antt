-- `part` meets its contract. The loop's invariant: the numbers from i on are parted.
use Rattle.merging.proofs.FloodLoop.{Parting}
use Rattle.merging.proofs.part.Given as goal

abbrev pub invariant-numbers : goal.invariant-numbers
invariant-numbers l = Parting l.ship l.initial.list l.list l.a l.t l.n l.i l.w
