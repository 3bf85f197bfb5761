use borrow.Author.Rules.{rules}
use Rattle.merging.proofs.MergeLoop.{merging}
use Rattle.merging.proofs.merge_touching_readings.Goals as goal

pub left-init : goal.left-init
left-init c = search (merging, rules)

pub flood-t-requires : goal.flood-t-requires
flood-t-requires c = search (merging, rules)

pub left-preserved : goal.left-preserved
left-preserved c = search (merging, rules)

pub returns : goal.returns
returns c = search (merging, rules)
