use borrow.Author.Rules.{rules}
use Rattle.towards.proofs.Seeks.{seeking_steps}
use Rattle.towards.proofs.Line.first_hit.Goals as goal

pub steps-init : goal.steps-init
steps-init c = search (seeking_steps, rules)

pub returns-in-Some : goal.returns-in-Some
returns-in-Some c = search (seeking_steps, rules)

pub steps-preserved : goal.steps-preserved
steps-preserved c = search (seeking_steps, rules)

pub returns : goal.returns
returns c = search (seeking_steps, rules)
