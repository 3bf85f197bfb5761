-- `next_hit` meets its contract. The loop's invariant: no polygon from number k on and before the one that is looked at next passes.
use Rattle.keeping.proofs.Looking.{Looked}
use Rattle.keeping.proofs.next_hit.Given as goal

abbrev pub invariant-polygons : goal.invariant-polygons
invariant-polygons l = Looked l.deck l.kept.numbers.now l.kept.rest l.q l.k l.j
