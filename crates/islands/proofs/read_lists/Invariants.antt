-- `read_lists` meets its contract. The loop's invariant: the lists of the vertices before c are read.
use Rattle.islands.proofs.ListLoops.{Corners}
use Rattle.islands.proofs.read_lists.Given as goal

abbrev pub invariant-corners : goal.invariant-corners
invariant-corners l = Corners l.deck l.k l.i l.initial.out l.out l.initial.work l.work l.tail l.t l.c l.end
