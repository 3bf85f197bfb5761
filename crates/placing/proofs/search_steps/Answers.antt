use borrow.Author.Rules.{rules}
use Rattle.placing.proofs.StepLoop.{searching_found, searching}
use Rattle.placing.proofs.search_steps.Goals as goal

pub steps-init : goal.steps-init
steps-init c = search (searching, rules)

pub take_step-tally-requires : goal.take_step-tally-requires
take_step-tally-requires c = search (searching, rules)

pub returns-in-Some : goal.returns-in-Some
returns-in-Some c =
    searching_found c.steps.invariant.1 c.steps-steps.ensures.is.0 c.steps-test.true c.take_step-tally.ensures.0
    c.in-Some.is c.placed_record.ensures

pub steps-preserved : goal.steps-preserved
steps-preserved c = (search rules, search (searching, rules))

pub returns : goal.returns
returns c = search (searching, rules)
