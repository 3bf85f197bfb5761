-- `put_from` meets its contract. The loop's invariant: what the decks from b on count and write is left.
use Prim.Native.Nat.{◌-◌}
use Rattle.words.specs.Rows.{collect_all}
use Rattle.ship.specs.Decode.{decode}
use Rattle.stitching.specs.Points.{stitches_between, stitches_from}
use Rattle.stitching.proofs.Putting.{Putting}
use Rattle.stitching.proofs.put_from.Given as goal

abbrev pub invariant-decks : goal.invariant-decks
invariant-decks l = Putting (stitches_from (decode l.ship) l.a) l.n l.initial.out (collect_all (stitches_between (decode l.ship) l.a) l.b (l.decks - l.b)) l.count l.out
