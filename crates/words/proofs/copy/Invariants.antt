-- `copy` meets its contract. The loop's invariant: what the whole slice writes is what the bytes that are left write.
use Rattle.words.proofs.Copying.{Copied}
use Rattle.words.proofs.copy.Given as goal

abbrev pub invariant-loop-i : goal.invariant-loop-i
invariant-loop-i l = Copied l.initial.out l.at l.bytes l.out l.i
