-- `put_records` meets its contract. The loop's invariant: the records of the seats below `seat` are written.
use mathlib.Core.Path.{◌≡◌}
use Rattle.seat_run.specs.SeatFile.{seat_count}
use Rattle.seat_run.proofs.RunLoop.{Recording}
use Rattle.seat_run.proofs.put_records.Given as goal

abbrev pub invariant-seats : goal.invariant-seats
invariant-seats l =
    (l.count ≡ seat_count l.run.seats.now) × Recording l.run.ship.now l.run.blocked.now l.run.seats.now l.initial.out l.out l.seat
