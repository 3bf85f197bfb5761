-- `whole_root` meets its contract. The root stays between low and high, and each turn halves what lies between.
use Prim.Native.Nat.{◌-◌}
use Rattle.root.proofs.Loops.{Interval}
use Rattle.root.proofs.whole_root.Given as goal

abbrev pub invariant-halves : goal.invariant-halves
invariant-halves l = Interval l.n l.low l.high

abbrev pub decreases-halves : goal.decreases-halves
decreases-halves l = l.high - l.low
