use borrow.Author.Rules.{rules}
use Rattle.islands.proofs.DeckWalks.{walks, walk_polygon}
use Rattle.islands.proofs.walk.Goals as goal

pub mark-t-requires : goal.mark-t-requires
mark-t-requires c = search (walks, rules)

pub queue-init : goal.queue-init
queue-init c = search (walks, rules)

-- by its paths: the search breaks off
pub read_lists-t-requires : goal.read_lists-t-requires
read_lists-t-requires c =
    walk_polygon c.queue.invariant c.queue-test.true c.number_at-k.ensures

pub queue-preserved : goal.queue-preserved
queue-preserved c = search (walks, rules)

pub returns : goal.returns
returns c = search (walks, rules)
