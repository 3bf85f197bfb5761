-- `sift_deck` meets its contract.
use borrow.Author.Rules.{rules}
use Rattle.sifting.proofs.Turns.{turns}
use Rattle.sifting.proofs.sift_deck.Goals as goal

pub sift-requires : goal.sift-requires
sift-requires c = search (turns, rules)
