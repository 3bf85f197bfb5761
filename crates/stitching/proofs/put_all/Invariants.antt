-- `put_all` meets its contract. The loop's invariant: what the decks from a on count and write is left.
use Prim.Native.Nat.{◌-◌}
use Rattle.words.specs.Rows.{collect_all}
use Rattle.ship.specs.Decode.{decode}
use Rattle.stitching.specs.Points.{stitches_from, stitch_points}
use Rattle.stitching.proofs.Putting.{Putting}
use Rattle.stitching.proofs.put_all.Given as goal

abbrev pub invariant-decks : goal.invariant-decks
invariant-decks l = Putting (stitch_points (decode l.ship)) 0 l.initial.out (collect_all (stitches_from (decode l.ship)) l.a (l.decks - l.a)) l.count l.out
