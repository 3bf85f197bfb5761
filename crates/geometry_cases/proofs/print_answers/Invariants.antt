use Rattle.std.proofs.Common.{length}
use Rattle.geometry_cases.proofs.print_answers.Given as goal

abbrev pub decreases-loop-rest : goal.decreases-loop-rest
decreases-loop-rest g l = length l.rest
