-- The call with a load sheet: when it is answered, and what it then answers and leaves in the output and in the table.
use Prim.Native.Nat.{ℕ, ◌*◌, ◌≤◌, ◌<◌}
use native.Mathlib.Omega.{arith}
use mathlib.Core.Path.{◌≡◌, sym, ap, ap₂, ◌∙◌, subst⁻¹}
use mathlib.Core.List.{List, ◌++◌}
use lib.ListN.{length, get_or, take, drop}
use lib.Seq.{take_at}
use Rattle.words.specs.Bytes.{count_at}
use Rattle.words.proofs.Counts.{length_counts, counts_read}
use Rattle.answers.specs.Checks.{ask, after, Check}
use Rattle.answers.specs.Questions.{question20}
use Rattle.answers.specs.Replies.{reply_check, table_to, Answer}
use Rattle.answers.proofs.Asking.{asked_yes, both_passed, q20_yes, q20_fits}
use Rattle.answers.proofs.Replying.{check_passed, passed_check, of_reply, answer_passed, output_passed}
use Rattle.std.specs.Prelude.{Ok, Err}
use Rattle.answers.specs.declared.Refusal.{Refusal}
use Rattle.answers.specs.declared.Refusal.TheVariants.{NoRoom}
use Rattle.records.specs.Record.{record_size, record_bytes, records_bytes, records_in, record_slice}
use Rattle.records.proofs.ReadBack.{records_length, slice_written, records_written}
use Rattle.ship.specs.Decode.{decode}
use Rattle.seat_run.specs.SeatFile.{seat_count}
use Rattle.seat_run.specs.Run.{run_check, record_of_seat, run_records}
use Rattle.seat_run.proofs.RunRecords.{run_length, run_at}
use Rattle.loads.specs.Sheet.{sheet_length}
use Rattle.loads.specs.Loads.{Lent, count_size, labels_check, loads_check, run_sheet, sheet_bytes, loads_work, asked_reply, loads_answer, loads_output, loads_table}
use Rattle.loads.proofs.SheetLaws.{sheet_length_lem}

-- ---- the questions, and how much is written
module _ (file blocked seats : List ℕ) where
  pub loads_parts : loads_check file blocked seats ≡ Ok tt → (run_check file blocked seats ≡ Ok tt) × (labels_check (decode file) ≡ Ok tt)
  unfolding loads_check
  loads_parts h = both_passed (run_check file blocked seats) (labels_check (decode file)) h

  pub loads_passed : run_check file blocked seats ≡ Ok tt → labels_check (decode file) ≡ Ok tt → loads_check file blocked seats ≡ Ok tt
  unfolding loads_check
  loads_passed a b = rw a b

  pub sheet_bytes_long : length (sheet_bytes file blocked seats) ≡ count_size * sheet_length (decode file)
  sheet_bytes_long = length_counts (run_sheet file blocked seats) ∙ ap (λ (n : ℕ). count_size * n) (sheet_length_lem (decode file) (run_records file blocked seats))

  pub records_bytes_long : length (records_bytes (run_records file blocked seats)) ≡ record_size * seat_count seats
  records_bytes_long = records_length (run_records file blocked seats) ∙ ap (λ (n : ℕ). record_size * n) (run_length (decode file) blocked seats)

-- ---- 20, of something lent beside the output
module _ (c : Check) (wanted : ℕ) (lent : List ℕ) where
  room_yes : c ≡ Ok tt → wanted ≤ length lent → after c (ask (question20 wanted (length lent)) NoRoom (Ok tt)) ≡ Ok tt
  room_yes e l = rw (e, q20_yes wanted (length lent) l)

  yes_room : after c (ask (question20 wanted (length lent)) NoRoom (Ok tt)) ≡ Ok tt → (c ≡ Ok tt) × (wanted ≤ length lent)
  yes_room h =
      let a = both_passed c _ h in
      (a.0, q20_fits wanted (length lent) (asked_yes (question20 wanted (length lent)) NoRoom (Ok tt) a.1).0)

-- all that a call which is answered had: its questions passed, and room for the records, for the sheet and for the labels
pub record Asked (file blocked : List ℕ) (lent : Lent) : Type 0 where
  pub passed : loads_check file blocked lent.seats ≡ Ok tt
  pub out_room : record_size * seat_count lent.seats ≤ length lent.out
  pub table_room : count_size * sheet_length (decode file) ≤ length lent.table
  pub work_room : loads_work file ≤ length lent.work

module _ (file blocked : List ℕ) (lent : Lent) where
  -- the questions up to the one on the table, and up to the one on the work
  abbrev own : Check
  own = loads_check file blocked lent.seats

  abbrev wanted : ℕ
  wanted = length (sheet_bytes file blocked lent.seats)

  abbrev tabled : Check
  tabled = after own (ask (question20 wanted (length lent.table)) NoRoom (Ok tt))

  pub asked_passed : loads_check file blocked lent.seats ≡ Ok tt → record_size * seat_count lent.seats ≤ length lent.out
      → count_size * sheet_length (decode file) ≤ length lent.table → loads_work file ≤ length lent.work
      → reply_check (asked_reply file blocked lent) (length lent.out) ≡ Ok tt
  asked_passed passed out_room table_room work_room =
      let t = room_yes own wanted lent.table passed (omega (arith, table_room, sheet_bytes_long file blocked lent.seats)) in
      check_passed (asked_reply file blocked lent) (length lent.out)
      (room_yes tabled (loads_work file) lent.work t work_room)
      (omega (arith, out_room, records_bytes_long file blocked lent.seats))

  module _ (passed : reply_check (asked_reply file blocked lent) (length lent.out) ≡ Ok tt) where
    pub passed_asked : Asked file blocked lent
    passed_asked =
        let o = passed_check (asked_reply file blocked lent) (length lent.out) passed in
        let w = yes_room tabled (loads_work file) lent.work o.0 in
        let t = yes_room own wanted lent.table w.0 in
        record {
          passed = t.0;
          out_room = omega (arith, o.1, records_bytes_long file blocked lent.seats);
          table_room = omega (arith, t.1, sheet_bytes_long file blocked lent.seats);
          work_room = w.1;
        }

    -- ---- what it answers and leaves
    pub answer_asked : loads_answer file blocked lent ≡ Ok (seat_count lent.seats)
    answer_asked = answer_passed (asked_reply file blocked lent) lent.out passed ∙ ap Ok (run_length (decode file) blocked lent.seats)

    pub output_asked : loads_output file blocked lent ≡ records_bytes (run_records file blocked lent.seats) ++ drop (record_size * seat_count lent.seats) lent.out
    output_asked =
        output_passed (asked_reply file blocked lent) lent.out passed
        ∙ ap (λ (n : ℕ). records_bytes (run_records file blocked lent.seats) ++ drop n lent.out) (records_bytes_long file blocked lent.seats)

    pub table_asked : loads_table file blocked lent ≡ sheet_bytes file blocked lent.seats ++ drop (length (sheet_bytes file blocked lent.seats)) lent.table
    unfolding table_to
    table_asked = rw passed

    -- ---- read back
    pub records_left_lem : take (record_size * seat_count lent.seats) (loads_output file blocked lent) ≡ records_bytes (run_records file blocked lent.seats)
    records_left_lem =
        rw output_asked
        (take_at (records_bytes (run_records file blocked lent.seats)) _ (record_size * seat_count lent.seats) (records_bytes_long file blocked lent.seats))

    pub records_read : records_in (loads_output file blocked lent) (seat_count lent.seats) ≡ run_records file blocked lent.seats
    records_read =
        ap₂ records_in output_asked (sym (run_length (decode file) blocked lent.seats)) ∙ records_written (run_records file blocked lent.seats) _

    pub slice_left : (i : ℕ) → i < seat_count lent.seats
        → record_slice (loads_output file blocked lent) i ≡ record_bytes (record_of_seat (decode file) blocked lent.seats i)
    slice_left i h =
        rw output_asked (slice_written (run_records file blocked lent.seats) _ i (omega (arith, run_length (decode file) blocked lent.seats)))
        ∙ ap record_bytes (run_at (decode file) blocked lent.seats i h)

    pub table_left : take (count_size * sheet_length (decode file)) (loads_table file blocked lent) ≡ sheet_bytes file blocked lent.seats
    table_left =
        rw table_asked
        (take_at (sheet_bytes file blocked lent.seats) _ (count_size * sheet_length (decode file)) (sheet_bytes_long file blocked lent.seats))

    pub table_read : (k : ℕ) → k < sheet_length (decode file) → count_at (loads_table file blocked lent) k ≡ get_or (run_sheet file blocked lent.seats) k 0
    table_read k h =
        rw table_asked (counts_read (run_sheet file blocked lent.seats) _ k (omega (arith, sheet_length_lem (decode file) (run_records file blocked lent.seats))))

  -- what holds of the answer of every call: it was refused, or it passed and wrote a record a seat
  pub of_loads : (P : Answer → Type 0) → ((number : Refusal) → P (Err number))
      → (reply_check (asked_reply file blocked lent) (length lent.out) ≡ Ok tt → P (Ok (seat_count lent.seats))) → P (loads_answer file blocked lent)
  of_loads P refused wrote =
      of_reply (asked_reply file blocked lent) lent.out P refused
      (λ e. subst⁻¹ (λ (n : ℕ). P (Ok n)) (run_length (decode file) blocked lent.seats) (wrote e))
