-- The records of a run with a table are those of the run, so what holds of every run's records holds of its records.
use Prim.Native.Nat.{ℕ}
use native.Mathlib.Omega.{arith}
use mathlib.Core.Path.{◌≡◌, refl, sym, ◌∙◌}
use mathlib.Core.List.{List}
use lib.ListN.{length}
use Rattle.answers.specs.Replies.{reply_check, Replied, Answer}
use Rattle.answers.proofs.Replying.{replied_written}
use Rattle.std.specs.Prelude.{Ok}
use Rattle.ship.specs.Decode.{decode}
use Rattle.seat_run.specs.SeatFile.{seat_count}
use Rattle.seat_run.specs.Run.{run_reply}
use Rattle.seat_run.specs.Survey.{Surveyed}
use Rattle.seat_run.specs.Blocked.{BlockedUnplaced}
use Rattle.seat_run.proofs.RunRecords.{run_length, reply_long}
use Rattle.seat_run.proofs.SurveyTheorem.{surveyed}
use Rattle.seat_run.proofs.BlockedTheorem.{blocked_unplaced}
use Rattle.loads.specs.Loads.{Lent, asked_reply, loads_output, LoadsReplied, SurveyedLoads, UnplacedLoads}
use Rattle.loads.proofs.LoadsReply.{passed_asked, loads_parts, output_asked, of_loads}

module _ (file blocked : List ℕ) (lent : Lent) where
  as_run : reply_check (asked_reply file blocked lent) (length lent.out) ≡ Ok tt
      → Replied (run_reply file blocked lent.seats) lent.out (loads_output file blocked lent) (Ok (seat_count lent.seats))
  as_run passed =
      let all = passed_asked file blocked lent passed in
      let long = reply_long file blocked lent.seats in
      replied_written refl (loads_parts file blocked lent.seats all.passed).0 (omega (arith, long, all.out_room))
      (sym (run_length (decode file) blocked lent.seats)) (output_asked file blocked lent passed ∙ rw long)

  surveyed_loads : SurveyedLoads file blocked lent (loads_output file blocked lent)
  surveyed_loads =
      of_loads file blocked lent (λ r. Surveyed file blocked lent.seats r (loads_output file blocked lent)) (λ number. tt)
      (λ passed. surveyed file blocked lent.seats lent.out (as_run passed))

  unplaced_loads : UnplacedLoads file blocked lent (loads_output file blocked lent)
  unplaced_loads =
      of_loads file blocked lent (λ r. BlockedUnplaced file blocked lent.seats r (loads_output file blocked lent)) (λ number. tt)
      (λ passed. blocked_unplaced file blocked lent.seats lent.out (as_run passed))

  module _ {out' table' work' : List ℕ} {r : Answer} (h : LoadsReplied file blocked lent.seats lent.out out' lent.table table' lent.work work' r) where
    pub loads_surveyed : Surveyed file blocked lent.seats r out'
    loads_surveyed = rw (h.worked.replied.answer_is, h.worked.replied.output_is) surveyed_loads

    pub loads_surveyed_code : SurveyedLoads file blocked lent out'
    loads_surveyed_code = rw h.worked.replied.output_is surveyed_loads

    pub loads_unplaced : BlockedUnplaced file blocked lent.seats r out'
    loads_unplaced = rw (h.worked.replied.answer_is, h.worked.replied.output_is) unplaced_loads

    pub loads_unplaced_code : UnplacedLoads file blocked lent out'
    loads_unplaced_code = rw h.worked.replied.output_is unplaced_loads
