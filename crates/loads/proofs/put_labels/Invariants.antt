-- `put_labels` meets its contract. The loop's invariant: the labels of the decks below d are written.
use Rattle.loads.proofs.LabelLoop.{Labelling}
use Rattle.loads.proofs.put_labels.Given as goal

abbrev pub invariant-decks : goal.invariant-decks
invariant-decks l = Labelling l.ship l.initial.work l.table l.work l.at l.d
