-- `lost_in_block` meets its contract.
use borrow.Author.Rules.{rules}
use Rattle.removal.proofs.Losses.{block_losses}
use Rattle.removal.proofs.Removal.lost_in_block.Goals as goal

pub returns-then-j-ne1 : goal.returns-then-j-ne1
returns-then-j-ne1 c = search (block_losses, rules)

pub returns : goal.returns
returns c = search (block_losses, rules)
