-- `split` meets its contract. The digits times 2 ^ shift stay the same number.
use Rattle.root.proofs.Loops.{Moved}
use Rattle.root.proofs.split.Given as goal

abbrev pub invariant-up : goal.invariant-up
invariant-up l = Moved l.bits l.digits l.shift

abbrev pub decreases-up : goal.decreases-up
decreases-up l = l.shift
