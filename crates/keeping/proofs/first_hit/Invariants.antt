-- `first_hit` meets its contract. The outer loop's invariant: the deck's turn is that of the samples that are left. The inner's: at the sample no
-- polygon before the one that is looked at next passes.
use Prim.Native.Nat.{◌-◌, ◌<◌}
use Rattle.keeping.proofs.Looking.{SamplesLeft, Looked}
use Rattle.keeping.proofs.first_hit.Given as goal

abbrev pub invariant-polygons : goal.invariant-polygons
invariant-polygons l = Looked l.deck l.kept.numbers.now l.kept.rest l.q 0 l.j

abbrev pub invariant-samples : goal.invariant-samples
invariant-samples l = (l.i < l.samples) × SamplesLeft l.deck l.ring.center l.ring.reach l.ring.step l.i

abbrev pub decreases-samples : goal.decreases-samples
decreases-samples l = l.samples - l.i
