-- `end_to_end` meets its contract. The loop's invariant: the answer for all lists is the answer for those that are left.
use Prim.Native.Nat.{◌≤◌}
use Rattle.ship.specs.Layout.{extent_at}
use Rattle.ship.proofs.ListLoops.{Chained}
use Rattle.ship.proofs.Rows+PAIR_SIZE.end_to_end.Given as goal

abbrev pub invariant-lists : goal.invariant-lists
invariant-lists l = (l.i ≤ l.self.count) × Chained (extent_at l.self.file.now l.self.at l.self.stride) l.total l.first l.self.count l.next l.i
