-- `put_deck` meets its contract.
use Rattle.removal.proofs.Decks.{ready_read, v_room, n_room, rest_fits, deck_put}
use Rattle.removal.proofs.Removal.put_deck.Goals as goal

pub put_vertices-n-requires : goal.put_vertices-n-requires
put_vertices-n-requires c = v_room (ready_read c.old_deck-deck.ensures c.requires) c.old_deck-deck.result.lies

pub put_neighbours-p-requires : goal.put_neighbours-p-requires
put_neighbours-p-requires c = n_room (ready_read c.old_deck-deck.ensures c.requires) c.old_deck-deck.result.lies c.put_vertices-n.ensures

pub put_rest-requires : goal.put_rest-requires
put_rest-requires c = rest_fits (ready_read c.old_deck-deck.ensures c.requires) c.old_deck-deck.result.lies c.put_vertices-n.ensures c.put_neighbours-p.ensures

pub returns : goal.returns
returns c =
    rw (← c.old_deck-deck.ensures.0, ← c.old_deck-deck.ensures.1.0, ← c.old_deck-deck.ensures.1.1)
    (deck_put (ready_read c.old_deck-deck.ensures c.requires) c.old_deck-deck.result.lies c.put_vertices-n.ensures c.put_neighbours-p.ensures c.put_rest.ensures)
