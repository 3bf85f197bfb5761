-- `put_named` meets its contract.
use borrow.Author.Rules.{rules}
use Rattle.candidates.proofs.CandidateReplies.{named}
use Rattle.candidates.proofs.put_named.Goals as goal

pub returns-then-not-room_for : goal.returns-then-not-room_for
returns-then-not-room_for c = search (named, rules)

pub put_u32-requires : goal.put_u32-requires
put_u32-requires c = search (named, rules)

pub returns : goal.returns
returns c = search (named, rules)
