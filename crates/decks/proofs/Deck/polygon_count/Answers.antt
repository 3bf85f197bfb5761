-- `polygon_count` meets its contract.
use Rattle.decks.proofs.Seen.{within_seen}
use Rattle.decks.proofs.Deck.polygon_count.Goals as goal

pub returns-clause-within : goal.returns-clause-within
returns-clause-within c = within_seen _ _ c.self.view_is c.self.invariant
