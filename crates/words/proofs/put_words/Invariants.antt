-- `put_words` meets its contract. The loop's invariant: what the whole run writes is what the words that are left write.
use Rattle.words.specs.Bytes.{bytes4}
use Rattle.words.proofs.Writing.{Rest}
use Rattle.words.proofs.put_words.Given as goal

abbrev pub invariant-loop-i : goal.invariant-loop-i
invariant-loop-i l = Rest bytes4 4 0 l.initial.out l.at l.words l.out l.i
