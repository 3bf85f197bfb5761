-- The theorem of bytes on the load sheet's totals: every run with a table that is not refused leaves counts that add up, and they are those counted from the back.
use Prim.Native.Nat.{ℕ, ◌+◌, ◌*◌, ◌^◌, ◌<◌}
use native.Mathlib.Omega.{arith}
use mathlib.Core.Path.{◌≡◌, refl, sym, ap, ap₂, ◌∙◌}
use mathlib.Core.Bool.{Bool, true, false}
use mathlib.Core.Logic.{inl, inr}
use mathlib.Core.List.{List, [], ◌∷◌, ◌++◌}
use lib.Dec.{eqb}
use lib.ListN.{length, get_or, drop}
use lib.Seq.{take_at}
use borrow.Author.Tests.{eqb-true, eqb-false}
use Rattle.words.specs.Bytes.{all_ones, count_at}
use Rattle.words.specs.Rows.{added}
use Rattle.words.proofs.Collecting.{sum_same}
use Rattle.words.proofs.TableRows.{all_rows}
use Rattle.words.proofs.Counts.{counts_read, length_counts}
use Rattle.answers.specs.Replies.{table_to, Answer}
use Rattle.answers.proofs.Asking.{both_passed}
use Rattle.answers.proofs.Replying.{of_reply, passed_check, output_passed}
use Rattle.std.specs.Prelude.{Ok}
use Rattle.records.specs.declared.SeatRecord.{SeatRecord}
use Rattle.records.specs.Record.{records_in}
use Rattle.records.proofs.ReadBack.{records_written}
use Rattle.ship.specs.Model.{deck_of}
use Rattle.ship.specs.Packed.{packed_of}
use Rattle.ship.specs.Decode.{decode}
use Rattle.ship.proofs.Packing.{packed_deck_lem, packed_polygon_lem}
use Rattle.islands.specs.Islands.{polygon_count}
use Rattle.survey.specs.Survey.{SeatSurvey, Placed}
use Rattle.walking.specs.Sees.{shown_from, view}
use Rattle.walking.proofs.ShownLaws.{polygons_few}
use Rattle.seat_run.specs.SeatFile.{seat_at, seat_count}
use Rattle.seat_run.specs.Run.{run_check, record_of_seat, run_records}
use Rattle.seat_run.proofs.SeatAsks.{run_yes}
use Rattle.seat_run.proofs.RunRecords.{run_rows, run_length}
use Rattle.seat_run.proofs.SurveyTheorem.{listed_meets}
use Rattle.loads.specs.Sheet.{ship_labels, polygon_load, island_load, deck_load, unplaced_load, sheet_of, from_back, polygon_entry, island_entry, deck_entry, unplaced_entry, sheet_length}
use Rattle.loads.specs.Loads.{loads_check, run_sheet, sheet_bytes, LoadsReplied, Lent, asked_reply, loads_answer, loads_output, loads_table}
use Rattle.loads.specs.Totals.{Totals, Totalled, TotalledCode}
use Rattle.loads.specs.Counting.{Aboard}
use Rattle.loads.proofs.SheetLaws.{sheet_length_lem, sheet_append, polygon_at, island_at, deck_at, unplaced_at, entry_inside}
use Rattle.loads.proofs.LoadSums.{AllAboard, polygons_sum, islands_sum, decks_sum, no_label}

-- ---- counted from the back
added_comm : (xs ys : List ℕ) → added xs ys ≡ added ys xs
unfolding added
added_comm [] [] = refl
added_comm [] (y ∷ ys) = refl
added_comm (x ∷ xs) [] = refl
added_comm (x ∷ xs) (y ∷ ys) = let e : x + y ≡ y + x = omega arith in ap₂ ◌∷◌ e (added_comm xs ys)

pub from_back_lem : (labels : List (List ℕ)) (records : List SeatRecord) → from_back labels records ≡ sheet_of labels records
unfolding from_back
from_back_lem labels [] = refl
from_back_lem labels (r ∷ records) =
    rw (from_back_lem labels records) (added_comm (sheet_of labels records) (sheet_of labels (r ∷ [])) ∙ sym (sheet_append labels (r ∷ []) records))

-- ---- a run that passed
module _ (file blocked seats : List ℕ) (passed : run_check file blocked seats ≡ Ok tt) where
  -- a seat that is placed has the polygon of a candidate
  pub record_aboard : (i : ℕ) → i < seat_count seats → Aboard (decode file) (record_of_seat (decode file) blocked seats i).polygon
  unfolding shown_from
  record_aboard i h = go (eqb r.polygon all_ones) refl
    where
      r : SeatRecord
      r = record_of_seat (decode file) blocked seats i

      meets : SeatSurvey (view (decode file) blocked (seat_at seats i)) (decode file).steps r
      meets = listed_meets file blocked seats (run_yes file blocked seats passed) i h

      at_candidate : Placed (view (decode file) blocked (seat_at seats i)) (decode file).steps r → Aboard (decode file) r.polygon
      at_candidate p =
          let d = p.chosen.deck in
          let k = p.chosen.polygon in
          let few : k < 2 ^ 24 = omega (arith, p.is_candidate.passes.0, polygons_few file (run_yes file blocked seats passed).file_passed (seat_at seats i).place d) in
          let e : r.polygon ≡ packed_of d k = ap (λ (s : SeatRecord). s.polygon) p.numbers in
          inr (rw (e, packed_deck_lem d k few, packed_polygon_lem d k few) (p.is_candidate.on_open.0, p.is_candidate.passes.0))

      go : (b : Bool) → eqb r.polygon all_ones ≡ b → Aboard (decode file) r.polygon
      go true e = inl (eqb-true r.polygon all_ones e)
      go false e = at_candidate (meets.placed (eqb-false r.polygon all_ones e))

  all_aboard : AllAboard (decode file) (run_records file blocked seats)
  all_aboard =
      rw (run_rows (decode file) blocked seats)
      (all_rows (λ r. Aboard (decode file) r.polygon) (record_of_seat (decode file) blocked seats) (seat_count seats) 0 (λ j a b. record_aboard j (omega arith)))

  -- ---- its counts, read from the table
  module _ (rest : List ℕ) where
    abbrev records : List SeatRecord
    records = run_records file blocked seats

    abbrev table : List ℕ
    table = sheet_bytes file blocked seats ++ rest

    at : (k : ℕ) → k < sheet_length (decode file) → count_at table k ≡ get_or (run_sheet file blocked seats) k 0
    at k h = counts_read (run_sheet file blocked seats) rest k (omega (arith, sheet_length_lem (decode file) records))

    module _ (d : ℕ) (h : d < length (decode file).decks) where
      polygon_read : (k : ℕ) → k < polygon_count (deck_of (decode file) d) → count_at table (polygon_entry (decode file) d k) ≡ polygon_load records d k
      polygon_read k l = at (polygon_entry (decode file) d k) (omega (arith, entry_inside (decode file) d k h l)) ∙ polygon_at (decode file) records d k h l

      island_read : (k : ℕ) → k < polygon_count (deck_of (decode file) d)
          → count_at table (island_entry (decode file) d k) ≡ island_load (ship_labels (decode file)) records d k
      island_read k l = at (island_entry (decode file) d k) (omega (arith, entry_inside (decode file) d k h l)) ∙ island_at (decode file) records d k h l

      deck_read : count_at table (deck_entry (decode file) d) ≡ deck_load records d
      deck_read = at (deck_entry (decode file) d) (omega arith) ∙ deck_at (decode file) records d h

    unplaced_read : count_at table (unplaced_entry (decode file)) ≡ unplaced_load records
    unplaced_read = at (unplaced_entry (decode file)) (omega arith) ∙ unplaced_at (decode file) records

    pub totals_of_sheet : Totals (decode file) (seat_count seats) (sheet_bytes file blocked seats ++ rest)
    totals_of_sheet =
        record {
          by_polygon = λ d h.
              sum_same (λ k. true) (λ k. count_at table (polygon_entry (decode file) d k)) (polygon_load records d) (polygon_count (deck_of (decode file) d))
              (λ k l t. polygon_read d h k l)
              ∙ polygons_sum (decode file) records all_aboard d
              ∙ sym (deck_read d h);
          by_island = λ d h.
              sum_same (λ k. true) (λ m. count_at table (island_entry (decode file) d m)) (island_load (ship_labels (decode file)) records d) (polygon_count (deck_of (decode file) d))
              (λ m l t. island_read d h m l)
              ∙ islands_sum (decode file) records all_aboard d
              ∙ sym (deck_read d h);
          elsewhere = λ d m h l none. island_read d h m l ∙ no_label (decode file) records all_aboard d m none;
          in_all =
              let decks = sum_same (λ k. true) (λ d. count_at table (deck_entry (decode file) d)) (deck_load records) (length (decode file).decks) (λ d h t. deck_read d h) in
              ap₂ ◌+◌ decks unplaced_read ∙ decks_sum (decode file) records all_aboard ∙ run_length (decode file) blocked seats;
        }

-- ---- the theorem
module _ (file blocked : List ℕ) (lent : Lent) where
  totalled_run : Totalled file (loads_answer file blocked lent) (loads_output file blocked lent) (loads_table file blocked lent)
  unfolding table_to loads_check
  totalled_run =
      of_reply (asked_reply file blocked lent) lent.out (λ r. Totalled file r (loads_output file blocked lent) (loads_table file blocked lent)) (λ number. tt)
      (λ e.
      let bytes = sheet_bytes file blocked lent.seats in
      let records = run_records file blocked lent.seats in
      let asked = (passed_check (asked_reply file blocked lent) (length lent.out) e).0 in
      let run = (both_passed (run_check file blocked lent.seats) _ (both_passed _ _ (both_passed _ _ asked).0).0).0 in
      let here : loads_table file blocked lent ≡ bytes ++ drop (length bytes) lent.table = rw e in
      let long : length bytes ≡ 8 * sheet_length (decode file) = omega (arith, length_counts (run_sheet file blocked lent.seats), sheet_length_lem (decode file) records) in
      let all : records_in (loads_output file blocked lent) (length records) ≡ records =
      rw (output_passed (asked_reply file blocked lent) lent.out e) (records_written records _) in (
        rw (here, run_length (decode file) blocked lent.seats) (totals_of_sheet file blocked lent.seats run _),
        rw (here, all, from_back_lem (ship_labels (decode file)) records) (take_at bytes _ _ long),
      ))

  pub totalled : {out' table' work' : List ℕ} {r : Answer} → LoadsReplied file blocked lent.seats lent.out out' lent.table table' lent.work work' r
      → Totalled file r out' table'
  totalled h = rw (h.worked.replied.answer_is, h.worked.replied.output_is, h.table_is) totalled_run

  pub totalled_code : {out' table' work' : List ℕ} {r : Answer} → LoadsReplied file blocked lent.seats lent.out out' lent.table table' lent.work work' r
      → TotalledCode file blocked lent out' table'
  totalled_code h = rw (h.worked.replied.output_is, h.table_is) totalled_run
