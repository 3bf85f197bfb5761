-- `label_all` meets its contract. The loop's invariant: the walks from the polygons before i are done.
use Rattle.islands.proofs.DeckWalks.{Starting}
use Rattle.islands.proofs.label_all.Given as goal

abbrev pub invariant-starts : goal.invariant-starts
invariant-starts l = Starting l.deck l.initial.out l.out l.initial.work l.work l.tail l.i
