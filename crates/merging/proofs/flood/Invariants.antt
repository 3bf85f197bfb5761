-- `flood` meets its contract. The loop's invariant: what is reached stands before t, and of that what stands before h touches none that is left.
use Prim.Native.Nat.{◌-◌}
use Rattle.merging.proofs.FloodLoop.{Flooding}
use Rattle.merging.proofs.flood.Given as goal

abbrev pub invariant-waiting : goal.invariant-waiting
invariant-waiting l = Flooding l.ship l.initial.list l.list l.head l.n l.h l.t

abbrev pub decreases-waiting : goal.decreases-waiting
decreases-waiting l = l.n - l.h
