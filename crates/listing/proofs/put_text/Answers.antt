-- `put_text` meets its contract.
use borrow.Author.Rules.{rules}
use Rattle.listing.proofs.Texts.{texts}
use Rattle.listing.proofs.put_text.Goals as goal

pub returns-then-not-input_allowed : goal.returns-then-not-input_allowed
returns-then-not-input_allowed c = search (texts, rules)

pub put_run-requires : goal.put_run-requires
put_run-requires c = search (texts, rules)

pub returns : goal.returns
returns c = search (texts, rules)
