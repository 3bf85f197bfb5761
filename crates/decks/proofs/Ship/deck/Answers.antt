-- `deck` meets its contract.
use Rattle.decks.proofs.Seen.{opened_within}
use Rattle.decks.proofs.Ship.deck.Goals as goal

pub returns-clause-within : goal.returns-clause-within
returns-clause-within c =
    rw c.at.ensures (opened_within c.self.inside.file.now c.self.invariant (rw c.self.view_is c.requires) c.blocks_at.ensures.0)
