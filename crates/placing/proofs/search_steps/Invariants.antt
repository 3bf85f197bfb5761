-- `search_steps` meets its contract. The loop's invariant: the first step with a candidate is the first from s on.
use mathlib.Core.Path.{◌≡◌}
use lib.ListN.{length}
use Rattle.placing.proofs.StepLoop.{Searching}
use Rattle.placing.proofs.search_steps.Given as goal

abbrev pub invariant-steps : goal.invariant-steps
invariant-steps l =
    (length l.near ≡ length l.initial.near)
    × Searching l.search.ship.now l.search.blocked.now l.search.seat l.tried l.s
