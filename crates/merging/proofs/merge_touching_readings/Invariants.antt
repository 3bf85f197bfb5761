-- `merge_touching_readings` meets its contract. The loop's invariant: those from t on are left and touched by none of the others, of which those that stay stand first.
use Prim.Native.Nat.{◌-◌}
use Rattle.merging.proofs.MergeLoop.{Merging}
use Rattle.merging.proofs.merge_touching_readings.Given as goal

abbrev pub invariant-left : goal.invariant-left
invariant-left l = Merging l.ship l.initial.list l.list l.n l.kept l.t

abbrev pub decreases-left : goal.decreases-left
decreases-left l = l.n - l.t
