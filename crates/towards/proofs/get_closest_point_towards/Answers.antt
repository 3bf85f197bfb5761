-- `get_closest_point_towards` meets its contract, clause by clause at each return.
use borrow.Author.Rules.{rules}
use Rattle.towards.proofs.Replies.{calling}
use Rattle.answers.proofs.Asking.{handed_on}
use Rattle.towards.proofs.get_closest_point_towards.Goals as goal

pub returns-in_err-ship-clause-replied : goal.returns-in_err-ship-clause-replied
returns-in_err-ship-clause-replied c = search (c.in_err-ship.was, handed_on c.from_residual.ensures.1, calling, rules)

pub direction_towards-requires : goal.direction_towards-requires
direction_towards-requires c = search (c.in_ok-ship.was, calling, rules)

pub put_place-requires : goal.put_place-requires
put_place-requires c = search (c.in_ok-ship.was, calling, rules)

pub returns-in-None-clause-replied : goal.returns-in-None-clause-replied
returns-in-None-clause-replied c = search (c.in_ok-ship.was, calling, rules)

pub returns-in-None-clause-surveyed : goal.returns-in-None-clause-surveyed
returns-in-None-clause-surveyed c = search (c.in_ok-ship.was, calling, rules)

pub returns-in-Some-clause-replied : goal.returns-in-Some-clause-replied
returns-in-Some-clause-replied c = search (c.in_ok-ship.was, calling, rules)

pub returns-in-Some-clause-surveyed : goal.returns-in-Some-clause-surveyed
returns-in-Some-clause-surveyed c = search (c.in_ok-ship.was, calling, rules)
