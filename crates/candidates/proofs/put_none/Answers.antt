-- `put_none` meets its contract.
use borrow.Author.Rules.{rules}
use Rattle.candidates.proofs.CandidateReplies.{named}
use Rattle.candidates.proofs.put_none.Goals as goal

pub returns : goal.returns
returns c = search (named, rules)
