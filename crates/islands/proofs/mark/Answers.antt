-- `mark` meets its contract.
use borrow.Author.Rules.{rules}
use Rattle.islands.proofs.Marking.{marking}
use Rattle.islands.proofs.mark.Goals as goal

pub returns-then-number_at-ne-ALL_ONES : goal.returns-then-number_at-ne-ALL_ONES
returns-then-number_at-ne-ALL_ONES c = search (marking, rules)

pub put_number-requires-2 : goal.put_number-requires-2
put_number-requires-2 c = search (marking, rules)

pub overflow_add-result : goal.overflow_add-result
overflow_add-result c = search (marking, rules)

pub returns : goal.returns
returns c = search (marking, rules)
