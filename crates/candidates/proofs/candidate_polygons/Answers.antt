-- `candidate_polygons` meets its contract.
use mathlib.Core.Bool.{not}
use mathlib.Core.Path.{ap}
use borrow.Author.Rules.{rules}
use Rattle.answers.proofs.Asking.{handed_on}
use Rattle.decks.proofs.Opening.{was_opened}
use Rattle.candidates.proofs.CandidateReplies.{call_refused, call_narrow, call_named, call_absent, call_found}
use Rattle.candidates.proofs.FoundNumbers.{call_ready, call_merged}
use Rattle.candidates.proofs.candidate_polygons.Goals as goal

pub returns-in_err-ship-clause-replied : goal.returns-in_err-ship-clause-replied
returns-in_err-ship-clause-replied c =
    rw (handed_on c.from_residual.ensures.1) (call_refused _ _ _ _ _ c.candidate_check.ensures c.in_err-ship.was)

pub returns-in_err-ship-clause-merged : goal.returns-in_err-ship-clause-merged
returns-in_err-ship-clause-merged c = call_merged _ _ _ _

pub returns-then-not-room_for-clause-replied : goal.returns-then-not-room_for-clause-replied
returns-then-not-room_for-clause-replied c =
    let o = was_opened _ _ c.candidate_check.ensures c.in_ok-ship.was in
    call_narrow _ _ _ _ _ o.0 (rw o.1 at c.polygon_total.ensures.0) c.room_for.ensures (ap not c.if-not-room_for.true)

pub returns-then-not-room_for-clause-merged : goal.returns-then-not-room_for-clause-merged
returns-then-not-room_for-clause-merged c = call_merged _ _ _ _

pub returns-then-polygon-ne-ALL_ONES-clause-replied : goal.returns-then-polygon-ne-ALL_ONES-clause-replied
returns-then-polygon-ne-ALL_ONES-clause-replied c =
    let o = was_opened _ _ c.candidate_check.ensures c.in_ok-ship.was in
    call_named _ _ _ _ _ o.0 (rw o.1 at c.polygon_total.ensures.0) c.room_for.ensures (ap not c.if-not-room_for.false) (search rules)
    c.put_named.ensures

pub returns-then-polygon-ne-ALL_ONES-clause-merged : goal.returns-then-polygon-ne-ALL_ONES-clause-merged
returns-then-polygon-ne-ALL_ONES-clause-merged c = call_merged _ _ _ _

pub returns-then-not-deck_there-clause-replied : goal.returns-then-not-deck_there-clause-replied
returns-then-not-deck_there-clause-replied c =
    let o = was_opened _ _ c.candidate_check.ensures c.in_ok-ship.was in
    call_absent _ _ _ _ _ o.0 (rw o.1 at c.polygon_total.ensures.0) c.room_for.ensures (ap not c.if-not-room_for.false) (search rules)
    (rw o.1 at c.deck_count.ensures.is.0) c.deck_there.ensures (search rules) c.put_none.ensures

pub returns-then-not-deck_there-clause-merged : goal.returns-then-not-deck_there-clause-merged
returns-then-not-deck_there-clause-merged c = call_merged _ _ _ _

pub put_found-requires : goal.put_found-requires
put_found-requires c =
    let o = was_opened _ _ c.candidate_check.ensures c.in_ok-ship.was in
    rw o.1
    (call_ready _ _ _ _ _ o.0 (rw o.1 at c.polygon_total.ensures.0) c.room_for.ensures (ap not c.if-not-room_for.false)
    (rw o.1 at c.deck_count.ensures.is.0) c.deck_there.ensures (search rules))

pub returns-clause-replied : goal.returns-clause-replied
returns-clause-replied c =
    let o = was_opened _ _ c.candidate_check.ensures c.in_ok-ship.was in
    call_found _ _ _ _ _ o.0 (rw o.1 at c.polygon_total.ensures.0) c.room_for.ensures (ap not c.if-not-room_for.false) (search rules)
    (rw o.1 at c.deck_count.ensures.is.0) c.deck_there.ensures (search rules) (rw o.1 at c.put_found.ensures)

pub returns-clause-merged : goal.returns-clause-merged
returns-clause-merged c = call_merged _ _ _ _
