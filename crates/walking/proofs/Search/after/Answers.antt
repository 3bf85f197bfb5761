-- `after` meets its contract.
use borrow.Author.Rules.{rules}
use Rattle.walking.proofs.ShownLaws.{spot_sample, next_shown, next_fits}
use Rattle.walking.proofs.Reaching.{turn_here, nexts, passing_kept}
use Rattle.walking.proofs.Walks.{afters, after_hit, after_missed}
use Rattle.walking.proofs.Search.after.Goals as goal

pub list_of-list-requires : goal.list_of-list-requires
list_of-list-requires c = search (turn_here c.args.self.now.ready c.requires.turn, nexts, rules)

pub next_hit-requires : goal.next_hit-requires
next_hit-requires c =
    passing_kept (turn_here c.args.self.now.ready c.requires.turn) c.requires c.deck-deck.ensures.is
    (spot_sample c.spot.ensures.ship c.spot.ensures.at c.sample-q.ensures) c.list_of-list.ensures.0 c.list_of-list.ensures.1

pub overflow_add-c : goal.overflow_add-c
overflow_add-c c = search (next_fits, rules)

pub returns-in-Some : goal.returns-in-Some
returns-in-Some c = search (after_hit, next_shown, spot_sample, rules)

pub overflow_add-c-in-None : goal.overflow_add-c-in-None
overflow_add-c-in-None c = search (afters, rules)

pub returns-in-None : goal.returns-in-None
returns-in-None c = search (after_missed, next_shown, spot_sample, rules)
