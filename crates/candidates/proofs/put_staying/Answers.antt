-- `put_staying` meets its contract.
use borrow.Author.Rules.{rules}
use Rattle.candidates.proofs.CandidateReplies.{staying_few, staying}
use Rattle.candidates.proofs.put_staying.Goals as goal

pub returns-then-not-staying_fit : goal.returns-then-not-staying_fit
returns-then-not-staying_fit c = search (staying, rules)

pub overflow_mul-stay : goal.overflow_mul-stay
overflow_mul-stay c = search (staying, rules)

pub put_front-requires : goal.put_front-requires
put_front-requires c =
    let few = staying_few _ _ c.args.step.now.search.now.seat _ c.args.step.now.counted in
    (search (few, staying, rules), search (staying, rules))

pub returns : goal.returns
returns c = search (staying, rules)
