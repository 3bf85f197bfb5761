-- `mean_height` meets its contract. The loop's invariant: the mean is that of the sum so far and the heights that are left.
use Rattle.search.proofs.HeightLoop.{SumLeft}
use Rattle.search.proofs.mean_height.Given as goal

abbrev pub invariant-corners : goal.invariant-corners
invariant-corners l = SumLeft l.deck l.k l.count l.sum l.j
