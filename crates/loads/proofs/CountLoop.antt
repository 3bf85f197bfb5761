-- The pass over the seats: the records of those below i are written, and the table is their sheet.
use Prim.Native.Nat.{ℕ, zero, suc, ◌+◌, ◌*◌, ◌^◌, ◌≤◌, ◌<◌}
use native.Mathlib.Omega.{arith}
use native.Mathlib.Numerals.{add-one}
use mathlib.Core.Path.{◌≡◌, sym, ap, ◌∙◌}
use mathlib.Core.List.{List, [], ◌∷◌, ◌++◌}
use lib.IntN.{ℤ}
use lib.ListN.{length, get_or, take}
use lib.Seq.{take-suc, take_all, length-take-le}
use Rattle.std.specs.Prelude.{Ok}
use Rattle.words.specs.Bytes.{splice, counts_of}
use Rattle.words.specs.Rows.{rows, collect, collect_all}
use Rattle.words.proofs.Counts.{length_counts}
use Rattle.records.specs.declared.SeatRecord.{SeatRecord}
use Rattle.records.specs.Record.{record_size, record_bytes, is_unplaced}
use Rattle.records.proofs.ReadBack.{no_record}
use Rattle.ship.specs.Decode.{decode}
use Rattle.seat_run.specs.SeatFile.{seat_count}
use Rattle.seat_run.specs.Run.{record_of_seat, run_records, RecordsRoom, run_check}
use Rattle.seat_run.proofs.RunRecords.{run_at, run_length}
use Rattle.seat_run.proofs.RunLoop.{Recording, recording_all, recording_none, recording_more, recording_long, recording_room}
use Rattle.loads.specs.Sheet.{ship_labels, on_deck, stands_at, own_place, island_place, polygon_load, island_load, deck_load, unplaced_load, each_polygon, sheet_of}
use Rattle.loads.specs.Counting.{Aboard, seat_counted, LabelsIn, CountReady, CountsReady, CountsPut}
use Rattle.loads.proofs.SheetLaws.{count_few, sheet_length_lem}
use Rattle.loads.proofs.Adding.{seat_sheet}
use Rattle.loads.proofs.TotalsTheorem.{record_aboard}

-- ---- no count is greater than the list is long
module _ (most : ℕ) where
  abbrev Few : List ℕ → Type 0
  Few l = (k : ℕ) → get_or l k 0 ≤ most

  few_append : (l m : List ℕ) → Few l → Few m → Few (l ++ m)
  few_append [] m a b k = b k
  few_append (x ∷ l) m a b zero = a 0
  few_append (x ∷ l) m a b (suc k) = few_append l m (λ j. a (suc j)) b k

  few_rows : (f : ℕ → ℕ) → ((j : ℕ) → f j ≤ most) → (n i : ℕ) → Few (rows f i n)
  unfolding rows
  few_rows f h zero i k = omega arith
  few_rows f h (suc n) i zero = h i
  few_rows f h (suc n) i (suc k) = few_rows f h n (i + 1) k

  few_lists : (f : ℕ → List ℕ) → ((j : ℕ) → Few (f j)) → (n i : ℕ) → Few (collect_all f i n)
  unfolding collect
  few_lists f h zero i k = omega arith
  few_lists f h (suc n) i k = few_append (f i) (collect_all f (i + 1) n) (h i) (few_lists f h n (i + 1)) k

few_last : (records : List SeatRecord) → Few (length records) (unplaced_load records ∷ [])
few_last records zero = count_few is_unplaced records
few_last records (suc k) = omega arith

pub sheet_few : (labels : List (List ℕ)) (records : List SeatRecord) (k : ℕ) → get_or (sheet_of labels records) k 0 ≤ length records
unfolding sheet_of each_polygon
sheet_few labels records =
    let n = length records in
    let each : (load : ℕ → ℕ → ℕ) → ((d k : ℕ) → load d k ≤ n) → Few n (each_polygon labels load) =
    λ load h. few_lists n (λ d. rows (load d) 0 (length (get_or labels d []))) (λ d. few_rows n (load d) (h d) (length (get_or labels d [])) 0) (length labels) 0 in
    let P = each_polygon labels (polygon_load records) in
    let I = each_polygon labels (island_load labels records) in
    let D = rows (deck_load records) 0 (length labels) in
    let polygons : Few n P = each (polygon_load records) (λ d k. count_few (stands_at own_place d k) records) in
    let islands : Few n I = each (island_load labels records) (λ d k. count_few (stands_at (island_place labels d) d k) records) in
    let decks : Few n D = few_rows n (deck_load records) (λ d. count_few (on_deck d) records) (length labels) 0 in
    few_append n (P ++ I ++ D) (unplaced_load records ∷ []) (few_append n (P ++ I) D (few_append n P I polygons islands) decks) (few_last records)

-- ---- `put_counts`
pub record Counting (file blocked seats out₀ out table work : List ℕ) (i : ℕ) : Type 0 where
  pub recording : Recording file blocked seats out₀ out i
  pub labels : LabelsIn (decode file) work
  pub table_is : table ≡ counts_of (sheet_of (ship_labels (decode file)) (take i (run_records file blocked seats)))

pub counting_all : {file blocked seats out table work : List ℕ} → CountsReady file seats out table work → Counting file blocked seats out out table work 0
counting_all ready = record { recording = recording_all ready.room; labels = ready.labels; table_is = ready.none }

module _ {file blocked seats out₀ out table work : List ℕ} {i : ℕ} (t : Counting file blocked seats out₀ out table work i) where
  pub counting_room : RecordsRoom seats out
  counting_room = recording_room t.recording

  pub counting_long : length out ≡ length out₀
  counting_long = recording_long t.recording

  pub counting_wide : {table₀ : List ℕ} → CountsReady file seats out₀ table₀ work → length table ≡ length table₀
  counting_wide ready =
      let none = sheet_of (ship_labels (decode file)) [] in
      let some = sheet_of (ship_labels (decode file)) (take i (run_records file blocked seats)) in
      rw (t.table_is, ready.none)
      (omega (arith, length_counts none, length_counts some, sheet_length_lem (decode file) [], sheet_length_lem (decode file) (take i (run_records file blocked seats))))

  module _ {n : ℕ} (e : n ≡ seat_count seats) where
    pub counting_none : n ≤ i → CountsPut file blocked seats out₀ out table
    counting_none h =
        record {
          records = recording_none t.recording e h;
          sheet = t.table_is ∙ ap (λ (l : List SeatRecord). counts_of (sheet_of (ship_labels (decode file)) l))
              (take_all i (run_records file blocked seats) (omega (arith, run_length (decode file) blocked seats)));
        }

    module _ (h : i < n) where
      pub counting_there : i < seat_count seats
      counting_there = omega arith

      taken : length (take i (run_records file blocked seats)) ≡ i
      taken = length-take-le i (run_records file blocked seats) (omega (arith, run_length (decode file) blocked seats))

      module _ (passed : run_check file blocked seats ≡ Ok tt) {r : SeatRecord} (is : r ≡ record_of_seat (decode file) blocked seats i) where
        aboard : Aboard (decode file) r.polygon
        aboard = rw is (record_aboard file blocked seats passed i (omega arith))

        pub counting_ready : {own : List ℕ} → own ≡ file → length seats < 2 ^ 64 → CountReady (decode own) r.polygon table work
        counting_ready same long =
            let few = sheet_few (ship_labels (decode file)) (take i (run_records file blocked seats)) in
            rw same
            (record {
              aboard = aboard;
              tallied =
                  record {
                    counts = sheet_of (ship_labels (decode file)) (take i (run_records file blocked seats));
                    bytes = t.table_is;
                    long = sheet_length_lem (decode file) (take i (run_records file blocked seats));
                    fits = λ k. omega (arith, few k, taken);
                  };
              labels = t.labels;
            })

        next_records : take (i + 1) (run_records file blocked seats) ≡ take i (run_records file blocked seats) ++ r ∷ []
        next_records =
            rw add-one (take-suc (run_records file blocked seats) i no_record (omega (arith, run_length (decode file) blocked seats)))
            ∙ ap (λ (x : SeatRecord). take i (run_records file blocked seats) ++ x ∷ []) (run_at (decode file) blocked seats i (omega arith) ∙ sym is)

        pub counting_more : {own out' table' : List ℕ} → own ≡ file → out' ≡ splice out (record_size * i) (record_bytes r)
            → table' ≡ seat_counted (decode own) r.polygon table → Counting file blocked seats out₀ out' table' work (i + 1)
        counting_more same w counted =
            record {
              recording = recording_more t.recording e h is w;
              labels = t.labels;
              table_is =
                  (rw same at counted)
                  ∙ ap (seat_counted (decode file) r.polygon) t.table_is
                  ∙ seat_sheet (decode file) (take i (run_records file blocked seats)) r aboard
                  ∙ ap (λ (l : List SeatRecord). counts_of (sheet_of (ship_labels (decode file)) l)) (sym next_records);
            }

pub ruleset counting = (counting_all, counting_none, counting_there, counting_ready, counting_more, counting_room, counting_long, counting_wide)
