-- `take_step` meets its contract. The loop's invariant: what the candidates of the step come to is what those that are left come to, after the tally so far.
use mathlib.Core.Path.{◌≡◌}
use lib.ListN.{length}
use Rattle.walking.specs.Asked.{seen}
use Rattle.walking.specs.Walk.{left_of}
use Rattle.placing.proofs.CandidateLoop.{Taking}
use Rattle.placing.proofs.take_step.Given as goal

abbrev pub invariant-candidates : goal.invariant-candidates
invariant-candidates l =
    (length l.near ≡ length l.initial.near)
    × Taking l.search.ship.now l.search.blocked.now l.search.seat l.s l.tried l.tally l.next

abbrev pub decreases-candidates : goal.decreases-candidates
decreases-candidates l = length (left_of (seen l.search) l.next)
