-- `bake_islands_detection` meets its contract.
use Rattle.answers.proofs.Asking.{handed_on}
use Rattle.islands.proofs.IslandsCall.{labels_least, call_refused, passed_deck, work_narrow, out_short, label_ready, labels_written}
use Rattle.islands.proofs.bake_islands_detection.Goals as goal

pub returns-in_err-ship-clause-replied : goal.returns-in_err-ship-clause-replied
returns-in_err-ship-clause-replied c =
    rw (handed_on c.from_residual.ensures.1) (call_refused _ _ c.islands_check.ensures _ _ c.in_err-ship.was)

pub returns-in_err-ship-clause-labelled : goal.returns-in_err-ship-clause-labelled
returns-in_err-ship-clause-labelled c = labels_least _ _

pub deck-labelled-requires : goal.deck-labelled-requires
deck-labelled-requires c = passed_deck _ _ c.islands_check.ensures c.in_ok-ship.was

pub returns-then-not-room_for-clause-replied : goal.returns-then-not-room_for-clause-replied
returns-then-not-room_for-clause-replied c =
    work_narrow _ _ c.islands_check.ensures c.in_ok-ship.was c.deck-labelled.ensures.is c.polygon_count-n.ensures.counts _ _ c.room_for.ensures c.if-not-room_for.true

pub returns-then-not-room_for-clause-labelled : goal.returns-then-not-room_for-clause-labelled
returns-then-not-room_for-clause-labelled c = labels_least _ _

pub returns-then-not-room_for-2-clause-replied : goal.returns-then-not-room_for-2-clause-replied
returns-then-not-room_for-2-clause-replied c =
    out_short _ _ c.islands_check.ensures c.in_ok-ship.was c.deck-labelled.ensures.is c.polygon_count-n.ensures.counts _ _ c.room_for.ensures c.if-not-room_for.false c.room_for-2.ensures c.if-not-room_for-2.true

pub returns-then-not-room_for-2-clause-labelled : goal.returns-then-not-room_for-2-clause-labelled
returns-then-not-room_for-2-clause-labelled c = labels_least _ _

pub label_all-requires : goal.label_all-requires
label_all-requires c =
    label_ready _ _ c.islands_check.ensures c.in_ok-ship.was c.deck-labelled.ensures.is c.polygon_count-n.ensures.counts _ _ c.room_for.ensures c.if-not-room_for.false c.room_for-2.ensures c.if-not-room_for-2.false

pub returns-clause-replied : goal.returns-clause-replied
returns-clause-replied c =
    labels_written _ _ c.islands_check.ensures c.in_ok-ship.was c.deck-labelled.ensures.is c.polygon_count-n.ensures.counts _ _ c.room_for.ensures c.if-not-room_for.false c.room_for-2.ensures c.if-not-room_for-2.false c.label_all.ensures

pub returns-clause-labelled : goal.returns-clause-labelled
returns-clause-labelled c = labels_least _ _
