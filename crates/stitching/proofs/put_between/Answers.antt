use borrow.Author.Rules.{rules}
use Rattle.stitching.proofs.Loops.{between}
use Rattle.stitching.proofs.put_between.Goals as goal

pub vertices-init : goal.vertices-init
vertices-init c = search (between, rules)

pub put_at-count-requires : goal.put_at-count-requires
put_at-count-requires c = search (between, rules)

pub vertices-preserved : goal.vertices-preserved
vertices-preserved c = search (between, rules)

pub returns : goal.returns
returns c = search (between, rules)
