use borrow.Author.Rules.{rules}
use Rattle.numbering.proofs.NumberLoop.{putting_all, putting_more, putting}
use Rattle.numbering.proofs.put_numbers.Goals as goal

pub returns : goal.returns
returns c = search (putting, rules)

pub overflow_mul-n : goal.overflow_mul-n
overflow_mul-n c = search (putting, rules)

pub packed-requires : goal.packed-requires
packed-requires c = search (putting, rules)

pub put_u32-requires : goal.put_u32-requires
put_u32-requires c = search (putting, rules)

pub overflow_add-n : goal.overflow_add-n
overflow_add-n c = search (putting, rules)

-- by its paths: the search breaks off where the number is a wrong one
pub candidates-preserved : goal.candidates-preserved
candidates-preserved c =
    let more = putting_more c.candidates.invariant.1 c.in-Reached.is c.after-next.ensures c.packed.ensures c.put_u32.ensures in
    (search rules, more)

pub candidates-init : goal.candidates-init
candidates-init c = (search rules, putting_all c.args.search.now.ready c.requires.1 c.first-next.ensures)
