use borrow.Author.Rules.{rules}
use Rattle.removal.proofs.Table.{table}
use Rattle.removal.proofs.Removal.put_table.Goals as goal

pub pairs-init : goal.pairs-init
pairs-init c = search (table, rules)

pub extent_at-block-requires : goal.extent_at-block-requires
extent_at-block-requires c = search (table, rules)

pub overflow_sub-words : goal.overflow_sub-words
overflow_sub-words c = search (table, rules)

pub overflow_add-lost : goal.overflow_add-lost
overflow_add-lost c = search (table, rules)

pub pairs-preserved : goal.pairs-preserved
pairs-preserved c = search (table, rules)

pub returns : goal.returns
returns c = search (table, rules)
