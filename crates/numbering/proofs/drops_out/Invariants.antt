-- `drops_out` meets its contract. The loop's invariant: none of the numbers passed reaches number j.
use Rattle.numbering.proofs.Midpoints.{Unreached}
use Rattle.numbering.proofs.drops_out.Given as goal

abbrev pub invariant-earlier : goal.invariant-earlier
invariant-earlier l = Unreached l.step.search.now.ship.now l.step.search.now.blocked.now l.step.search.now.seat l.step.number l.j l.i
