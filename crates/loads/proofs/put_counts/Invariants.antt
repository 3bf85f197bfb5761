-- `put_counts` meets its contract. The loop's invariant: the seats below `seat` are recorded and counted.
use Prim.Native.Nat.{◌^◌, ◌<◌}
use mathlib.Core.Path.{◌≡◌}
use lib.ListN.{length}
use Rattle.seat_run.specs.SeatFile.{seat_count}
use Rattle.loads.proofs.CountLoop.{Counting}
use Rattle.loads.proofs.put_counts.Given as goal

abbrev pub invariant-seats : goal.invariant-seats
invariant-seats l =
    (length l.run.seats.now < 2 ^ 64) × ((l.count ≡ seat_count l.run.seats.now)
    × Counting l.run.ship.now l.run.blocked.now l.run.seats.now l.initial.out l.out l.table l.work l.seat)
