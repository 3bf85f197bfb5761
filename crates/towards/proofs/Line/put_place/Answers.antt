-- `put_place` meets its contract.
use borrow.Author.Rules.{rules}
use Rattle.towards.proofs.Turns.{placing}
use Rattle.towards.proofs.Line.put_place.Goals as goal

pub returns-then-not-room_for : goal.returns-then-not-room_for
returns-then-not-room_for c = search (placing, rules)

pub packed-requires : goal.packed-requires
packed-requires c = search (placing, rules)

pub put_candidate-requires : goal.put_candidate-requires
put_candidate-requires c = search (placing, rules)

pub returns : goal.returns
returns c = search (placing, rules)
