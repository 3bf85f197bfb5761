-- `put_seats` meets its contract. The loop's invariant: the lines of the first i records are put.
use Rattle.listing.proofs.Records.{ListPlace}
use Rattle.listing.proofs.put_seats.Given as goal

abbrev pub invariant-seats : goal.invariant-seats
invariant-seats l = ListPlace l.records l.initial.text l.text l.at l.i
