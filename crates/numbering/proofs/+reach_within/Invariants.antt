-- `reach_within` meets its contract. The measure is k. The loop's invariant: none of the numbers passed is a midpoint.
use Rattle.numbering.proofs.Midpoints.{Tried}
use Rattle.numbering.proofs.+reach_within.Given as goal

abbrev pub decreases-reach_within : goal.decreases-reach_within
decreases-reach_within l = l.k

abbrev pub invariant-midpoints : goal.invariant-midpoints
invariant-midpoints l = Tried l.step.search.now.ship.now l.step.search.now.blocked.now l.step.search.now.seat l.step.number l.k l.a l.b l.m
