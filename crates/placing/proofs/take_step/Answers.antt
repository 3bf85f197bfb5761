use borrow.Author.Rules.{rules}
use Rattle.walking.proofs.ShownLaws.{spot_place, spot_height}
use Rattle.placing.proofs.CandidateLoop.{taking}
use Rattle.placing.proofs.take_step.Goals as goal

pub candidates-init : goal.candidates-init
candidates-init c = search (taking, rules)

pub overflow_add-result : goal.overflow_add-result
overflow_add-result c = search (taking, rules)

pub returns-in-Ended : goal.returns-in-Ended
returns-in-Ended c = search (taking, rules)

pub take-tally-requires : goal.take-tally-requires
take-tally-requires c = search (taking, rules)

pub candidates-preserved : goal.candidates-preserved
candidates-preserved c =
    search (
      spot_place c.spot-spot.ensures.ship c.spot-spot.ensures.at c.place.ensures,
      spot_height c.spot-spot.ensures.ship c.spot-spot.ensures.at c.height.ensures,
      taking,
      rules,
    )
