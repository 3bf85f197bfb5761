use borrow.Author.Rules.{rules}
use Rattle.walking.proofs.ShownLaws.{spot_place}
use Rattle.calls.proofs.EntryLoop.{putting}
use Rattle.calls.proofs.put_step.Goals as goal

pub packed-polygon-requires : goal.packed-polygon-requires
packed-polygon-requires c = search (putting, rules)

pub put_candidate-requires : goal.put_candidate-requires
put_candidate-requires c = search (spot_place c.spot.ensures.ship c.spot.ensures.at c.place.ensures, putting, rules)

pub candidates-init : goal.candidates-init
candidates-init c = search (c.args.step.now.search.now.ready, c.args.step.now.counted, putting, rules)

pub candidates-preserved : goal.candidates-preserved
candidates-preserved c = search (spot_place c.spot.ensures.ship c.spot.ensures.at c.place.ensures, putting, rules)

pub returns : goal.returns
returns c = search (putting, rules)
