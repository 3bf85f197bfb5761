-- `kept_in` meets its contract. The loop's invariant: `kept` of the entries before i stay.
use Rattle.unstitched.proofs.Entries.{Counted}
use Rattle.unstitched.proofs.OldDeck.kept_in.Given as goal

abbrev pub invariant-entries : goal.invariant-entries
invariant-entries l = Counted l.self.rule.which l.self.file.now l.self.rule.deck l.self.blocks l.first l.n l.kept l.i
