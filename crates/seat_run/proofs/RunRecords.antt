-- The records of a run, seat by seat, and where they stand in the output of a run that is not refused.
use Prim.Native.Nat.{ℕ, ◌+◌, ◌*◌, ◌<◌, ◌≤◌}
use native.Mathlib.Omega.{arith}
use mathlib.Core.Path.{◌≡◌, refl, sym, ap, ap₂, ◌∙◌, subst⁻¹}
use mathlib.Core.List.{List, ◌++◌}
use lib.ListN.{length, get_or, drop}
use Rattle.words.specs.Rows.{rows}
use Rattle.words.proofs.TableRows.{length_rows, get_d_rows, map_rows}
use Rattle.answers.specs.Replies.{reply_check, answer_to, output_to, Answer}
use Rattle.answers.proofs.Replying.{of_reply, passed_check, output_passed}
use Rattle.std.specs.Prelude.{Ok, Err}
use Rattle.answers.specs.declared.Refusal.{Refusal}
use Rattle.records.specs.declared.SeatRecord.{SeatRecord}
use Rattle.records.specs.Record.{record_size, record_bytes, records_bytes, record_at, records_in, record_slice}
use Rattle.records.proofs.ReadBack.{no_record, records_length, slice_written, record_written, records_written}
use Rattle.ship.specs.Model.{Ship}
use Rattle.ship.specs.Decode.{decode}
use Rattle.survey.specs.Search.{seat_record}
use Rattle.walking.specs.Sees.{view}
use Rattle.seat_run.specs.SeatFile.{seat_at, seat_count, seats_of}
use Rattle.seat_run.specs.Run.{record_of_seat, seat_run, run_records, run_reply}

module _ (ship : Ship) (blocked seats : List ℕ) where
  abbrev each : ℕ → SeatRecord
  each = record_of_seat ship blocked seats

  pub run_rows : seat_run ship blocked (seats_of seats) ≡ rows each 0 (seat_count seats)
  unfolding seat_run
  run_rows = map_rows (λ seat. seat_record (view ship blocked seat) ship.steps) (seat_at seats) each (seat_count seats) 0 (λ j a b. refl)

  pub run_length : length (seat_run ship blocked (seats_of seats)) ≡ seat_count seats
  run_length = rw run_rows (length_rows each (seat_count seats) 0)

  pub run_at : (i : ℕ) → i < seat_count seats → get_or (seat_run ship blocked (seats_of seats)) i no_record ≡ each i
  run_at i h = let e : 0 + i ≡ i = omega arith in rw run_rows (rw e at (get_d_rows each (seat_count seats) 0 i no_record h))

-- the bytes of a run's reply
pub reply_long : (file blocked seats : List ℕ) → length (run_reply file blocked seats).bytes ≡ record_size * seat_count seats
reply_long file blocked seats = records_length (run_records file blocked seats) ∙ rw (run_length (decode file) blocked seats)

-- ---- what holds of the answer of every run: it was refused, or it passed and wrote a record a seat
pub of_run : (file blocked seats out : List ℕ) (P : Answer → Type 0) → ((number : Refusal) → P (Err number))
    → (reply_check (run_reply file blocked seats) (length out) ≡ Ok tt → P (Ok (seat_count seats))) → P (answer_to (run_reply file blocked seats) out)
of_run file blocked seats out P refused wrote =
    of_reply (run_reply file blocked seats) out P refused (λ e. subst⁻¹ (λ (n : ℕ). P (Ok n)) (run_length (decode file) blocked seats) (wrote e))

-- ---- the output of a run that is not refused
module _ (file blocked seats out : List ℕ) (passed : reply_check (run_reply file blocked seats) (length out) ≡ Ok tt) where
  abbrev result : List ℕ
  result = output_to (run_reply file blocked seats) out

  pub run_room : record_size * seat_count seats ≤ length out
  run_room = omega (arith, (passed_check (run_reply file blocked seats) (length out) passed).1, reply_long file blocked seats)

  result_is : result ≡ records_bytes (run_records file blocked seats) ++ drop (length (run_reply file blocked seats).bytes) out
  result_is = output_passed (run_reply file blocked seats) out passed

  pub result_records : records_in result (seat_count seats) ≡ rows (record_of_seat (decode file) blocked seats) 0 (seat_count seats)
  result_records =
      ap₂ records_in result_is (sym (run_length (decode file) blocked seats))
      ∙ records_written (run_records file blocked seats) _
      ∙ run_rows (decode file) blocked seats

  module _ (i : ℕ) (h : i < seat_count seats) where
    listed : i < length (run_records file blocked seats)
    listed = omega (arith, run_length (decode file) blocked seats)

    pub result_record : record_at result i ≡ record_of_seat (decode file) blocked seats i
    result_record = rw result_is (record_written (run_records file blocked seats) _ i listed) ∙ run_at (decode file) blocked seats i h

    pub result_slice : record_slice result i ≡ record_bytes (record_of_seat (decode file) blocked seats i)
    result_slice = rw result_is (slice_written (run_records file blocked seats) _ i listed) ∙ ap record_bytes (run_at (decode file) blocked seats i h)
