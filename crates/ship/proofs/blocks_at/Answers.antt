-- `blocks_at` meets its contract.
use borrow.Author.Rules.{rules}
use Rattle.ship.proofs.Inside.{row_blocks}
use Rattle.ship.proofs.blocks_at.Goals as goal

pub overflow_sub-result : goal.overflow_sub-result
overflow_sub-result c = search (row_blocks, rules)

pub returns : goal.returns
returns c = search (row_blocks, rules)
