-- `put_sheet` meets its contract.
use borrow.Author.Rules.{rules}
use Rattle.loads.proofs.LoadsCall.{sheet_putting}
use Rattle.loads.proofs.put_sheet.Goals as goal

pub put_labels-requires : goal.put_labels-requires
put_labels-requires c = search (sheet_putting, rules)

pub put_counts-requires : goal.put_counts-requires
put_counts-requires c = search (sheet_putting, rules)
