use Rattle.std.proofs.Common.{length}
use Rattle.cases.proofs.input.print_answers.Given as goal

abbrev pub decreases-loop-input : goal.decreases-loop-input
decreases-loop-input g l = length l.input.left.now
