-- `seats_check` meets its contract. The loop's invariant: the seats below `number` passed.
use mathlib.Core.Path.{◌≡◌}
use Rattle.answers.proofs.Asking.{Checked}
use Rattle.seat_run.specs.SeatFile.{seat_count, seat_check}
use Rattle.seat_run.proofs.seats_check.Given as goal

abbrev pub invariant-seats : goal.invariant-seats
invariant-seats l = (l.count ≡ seat_count l.seats) × Checked (seat_check l.seats l.decks) l.count l.number
