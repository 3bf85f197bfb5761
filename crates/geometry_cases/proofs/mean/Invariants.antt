use Rattle.std.proofs.Common.{◌≡◌, ◌+◌}
use Rattle.geometry_cases.proofs.mean.Given as goal

-- so many heights are summed, of at most 4
abbrev pub invariant-loop-word : goal.invariant-loop-word
invariant-loop-word l = l.sum.count ≡ l.word-index + 1
