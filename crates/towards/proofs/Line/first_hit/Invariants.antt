-- `first_hit` meets its contract. The loop's invariant: the steps before t gave nothing.
use Rattle.towards.proofs.Seeks.{StepSeeking}
use Rattle.towards.proofs.Line.first_hit.Given as goal

abbrev pub invariant-steps : goal.invariant-steps
invariant-steps l = StepSeeking l.self.ship.now l.self.p l.self.direction l.deck l.s
