use borrow.Author.Rules.{rules}
use Rattle.numbering.proofs.Midpoints.{drop_ready, earlier}
use Rattle.numbering.proofs.drops_out.Goals as goal

pub reach_within-requires : goal.reach_within-requires
reach_within-requires c = search (drop_ready {seat = c.args.step.now.search.now.seat} c.args.step.now.counted c.requires, earlier, rules)

pub returns-then-reach_within : goal.returns-then-reach_within
returns-then-reach_within c = search (drop_ready {seat = c.args.step.now.search.now.seat} c.args.step.now.counted c.requires, earlier, rules)

pub earlier-preserved : goal.earlier-preserved
earlier-preserved c = search (drop_ready {seat = c.args.step.now.search.now.seat} c.args.step.now.counted c.requires, earlier, rules)

pub returns : goal.returns
returns c = search (drop_ready {seat = c.args.step.now.search.now.seat} c.args.step.now.counted c.requires, earlier, rules)
