-- `decks_check` meets its contract. The loop's invariant: the answer for all decks is the answer for those that are left.
use Prim.Native.Nat.{◌≤◌}
use Rattle.answers.proofs.Asking.{Checked}
use Rattle.ship.specs.Layout.{decks_in}
use Rattle.ship.specs.Questions.{deck_check}
use Rattle.ship.proofs.Header.decks_check.Given as goal

abbrev pub invariant-decks : goal.invariant-decks
invariant-decks l = (l.d ≤ l.decks) × Checked (deck_check l.self.file.now) (decks_in l.self.file.now) l.d
