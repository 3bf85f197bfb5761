-- `sift` meets its contract. The loop's invariant: the numbers so far are a kept list whose rest is what is looked at next.
use Rattle.sifting.proofs.SiftLoop.{Sifting}
use Rattle.sifting.proofs.sift.Given as goal

abbrev pub invariant-polygons : goal.invariant-polygons
invariant-polygons l = Sifting l.deck l.bounds l.source.numbers.now l.source.rest l.initial.into l.count l.j l.into
