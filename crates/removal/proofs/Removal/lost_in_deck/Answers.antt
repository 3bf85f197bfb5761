-- `lost_in_deck` meets its contract.
use borrow.Author.Rules.{rules}
use Rattle.removal.proofs.LaidDecks.{deck_of}
use Rattle.removal.proofs.Losses.{all_inside, less_fits, deck_less, less_read}
use Rattle.removal.proofs.Removal.lost_in_deck.Goals as goal

pub kept_in-requires : goal.kept_in-requires
kept_in-requires c = all_inside (deck_of c.old_deck.result)

pub overflow_mul-result : goal.overflow_mul-result
overflow_mul-result c = less_fits (deck_of c.old_deck.result) (search rules) _

pub returns : goal.returns
returns c = less_read c.old_deck.ensures (deck_less c.old_deck.result.lies c.kept_in.ensures.0)
