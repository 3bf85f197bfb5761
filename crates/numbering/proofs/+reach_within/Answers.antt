use borrow.Author.Rules.{rules}
use Rattle.numbering.proofs.Midpoints.{reach_ready, halves}
use Rattle.numbering.proofs.+reach_within.Goals as goal

pub returns-then-a-b : goal.returns-then-a-b
returns-then-a-b t c = search (reach_ready c.args.step.now.search.now.ready c.args.step.now.counted c.requires, halves, rules)

pub touches-requires : goal.touches-requires
touches-requires t c = search (reach_ready c.args.step.now.search.now.ready c.args.step.now.counted c.requires, halves, rules)

pub returns-then-k-eq0 : goal.returns-then-k-eq0
returns-then-k-eq0 t c = search (reach_ready c.args.step.now.search.now.ready c.args.step.now.counted c.requires, halves, rules)

pub reach_within-requires : goal.reach_within-requires
reach_within-requires t c = search (reach_ready c.args.step.now.search.now.ready c.args.step.now.counted c.requires, halves, rules)

pub returns : goal.returns
returns t c = search (reach_ready c.args.step.now.search.now.ready c.args.step.now.counted c.requires, halves, rules)

pub midpoints-preserved-then-not-reach_within : goal.midpoints-preserved-then-not-reach_within
midpoints-preserved-then-not-reach_within t c = search (reach_ready c.args.step.now.search.now.ready c.args.step.now.counted c.requires, halves, rules)

pub reach_within-requires-in-midpoints : goal.reach_within-requires-in-midpoints
reach_within-requires-in-midpoints t c = search (reach_ready c.args.step.now.search.now.ready c.args.step.now.counted c.requires, halves, rules)

pub returns-then-reach_within : goal.returns-then-reach_within
returns-then-reach_within t c = search (reach_ready c.args.step.now.search.now.ready c.args.step.now.counted c.requires, halves, rules)

pub midpoints-preserved : goal.midpoints-preserved
midpoints-preserved t c = search (reach_ready c.args.step.now.search.now.ready c.args.step.now.counted c.requires, halves, rules)
