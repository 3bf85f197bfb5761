-- `put_rest` meets its contract.
use borrow.Author.Rules.{rules}
use Rattle.removal.proofs.LaidDecks.{deck_of}
use Rattle.removal.proofs.Decks.{rest}
use Rattle.removal.proofs.LaidDeck.put_rest.Goals as goal

pub overflow_mul-end : goal.overflow_mul-end
overflow_mul-end c = search (deck_of c.args.self.now, rest, rules)

pub overflow_add-end : goal.overflow_add-end
overflow_add-end c = search (deck_of c.args.self.now, rest, rules)

pub overflow_sub-end : goal.overflow_sub-end
overflow_sub-end c = search (deck_of c.args.self.now, rest, rules)

pub copy_part-requires : goal.copy_part-requires
copy_part-requires c = search (deck_of c.args.self.now, rest, rules)

pub returns : goal.returns
returns c = search (deck_of c.args.self.now, rest, rules)
