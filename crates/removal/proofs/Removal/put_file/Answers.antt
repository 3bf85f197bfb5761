-- `put_file` meets its contract.
use borrow.Author.Rules.{rules}
use Rattle.removal.proofs.Replies.{file}
use Rattle.removal.proofs.Removal.put_file.Goals as goal

pub copy_part-requires : goal.copy_part-requires
copy_part-requires c = search (file, rules)

pub returns : goal.returns
returns c = search (file, rules)
