-- `place` meets its contract.
use borrow.Author.Rules.{rules}
use Rattle.walking.proofs.ShownLaws.{shows}
use Rattle.walking.proofs.Spot.place.Goals as goal

pub returns : goal.returns
returns c = search (shows, rules)
