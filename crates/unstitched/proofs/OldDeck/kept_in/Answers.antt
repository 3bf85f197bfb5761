use borrow.Author.Rules.{rules}
use Rattle.unstitched.proofs.Entries.{counted_yes, counted_no, counted_none, counted_few}
use Rattle.unstitched.proofs.OldDeck.kept_in.Goals as goal
use Rattle.unstitched.proofs.OldDeck.kept_in.Goals.{then-keeps, else-keeps}

pub entries-preserved : goal.entries-preserved
entries-preserved c = elim c.if-keeps.branch [
  | then-keeps w ↦ rw w.kept-is (counted_yes c.entries.invariant c.entries-test.true c.u32_at.ensures c.keeps.ensures (search rules))
  | else-keeps w ↦ rw w.kept-is (counted_no c.entries.invariant c.entries-test.true c.u32_at.ensures c.keeps.ensures (search rules))
]

pub returns : goal.returns
returns c = (counted_none c.entries.invariant (search rules), counted_few c.entries.invariant (search rules))
