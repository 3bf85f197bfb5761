-- `sample` meets its contract.
use borrow.Author.Rules.{rules}
use Rattle.walking.proofs.ShownLaws.{shows}
use Rattle.walking.proofs.Spot.sample.Goals as goal

pub invariant_of-ring : goal.invariant_of-ring
invariant_of-ring c = search (c.args.self.now.there, shows, rules)

pub sample-requires : goal.sample-requires
sample-requires c = search (shows, rules)

pub returns : goal.returns
returns c = search (shows, rules)
