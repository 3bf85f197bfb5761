-- `seatlist_text` meets its contract.
use borrow.Author.Rules.{rules}
use Rattle.listing.proofs.Texts.{text_short, text_copied}
use Rattle.listing.proofs.seatlist_text.Goals as goal

pub put_text-n-requires : goal.put_text-n-requires
put_text-n-requires c = (search rules, search rules)

pub returns-then-out-n : goal.returns-then-out-n
returns-then-out-n c = text_short _ c.put_text-n.ensures c.if-out-n.true

pub returns : goal.returns
returns c = text_copied _ c.put_text-n.ensures c.if-out-n.false c.put_bytes.ensures
