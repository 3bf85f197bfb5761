-- `put_run` meets its contract.
use borrow.Author.Rules.{rules}
use Rattle.listing.proofs.Texts.{texts}
use Rattle.listing.proofs.put_run.Goals as goal

pub overflow_mul-count : goal.overflow_mul-count
overflow_mul-count c = search (texts, rules)

pub slice_bounds-put_records-end : goal.slice_bounds-put_records-end
slice_bounds-put_records-end c = search (texts, rules)

pub slice_bounds-put_records-end-in-Ok : goal.slice_bounds-put_records-end-in-Ok
slice_bounds-put_records-end-in-Ok c = search (texts, rules)

pub put_records-requires : goal.put_records-requires
put_records-requires c = search (texts, rules)

pub returns-in-Err : goal.returns-in-Err
returns-in-Err c = search (texts, rules)

pub returns-in-Ok : goal.returns-in-Ok
returns-in-Ok c = search (texts, rules)
