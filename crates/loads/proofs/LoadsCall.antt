-- `put_sheet`, and the call: its three rooms, and what it leaves.
use Prim.Native.Nat.{ℕ, zero, suc, ◌+◌, ◌*◌, ◌≤◌}
use native.Mathlib.Omega.{arith}
use mathlib.Core.Path.{◌≡◌, refl, sym, ap, ◌∙◌}
use mathlib.Core.Bool.{Bool, true, false, not, ◌&&◌}
use mathlib.Core.List.{List, [], ◌++◌}
use lib.IntN.{ℤ}
use lib.ListN.{length, take, drop, replicate, length-append, length-drop, length-replicate, get_or-replicate, replicate-append-replicate}
use lib.Seq.{length-take-le, ext_get_or}
use Rattle.ring.specs.Table.{directions}
use Rattle.words.specs.Bytes.{words_of, bytes4, bytes8, joined, counts_of}
use Rattle.words.proofs.Numbers.{length_words}
use Rattle.words.proofs.TableRows.{both}
use Rattle.answers.specs.Questions.{question20}
use Rattle.answers.proofs.Asking.{said_no, said_yes, q20_short, q20_fits}
use Rattle.answers.proofs.Replying.{tabled_refused, tabled_short, tabled_narrow, tabled_idle, tabled_written}
use Rattle.std.specs.Prelude.{Result, Ok, Err}
use Rattle.answers.specs.declared.Refusal.{Refusal}
use Rattle.decks.specs.Opened.{opened}
use Rattle.decks.proofs.Opening.{opened_err, opened_ok}
use Rattle.answers.specs.declared.Refusal.TheVariants.{NoRoom}
use Rattle.records.specs.Record.{record_size}
use Rattle.ship.specs.Layout.{number_size, decks_in}
use Rattle.ship.specs.Model.{polygon_total}
use Rattle.ship.specs.Decode.{decode}
use Rattle.ship.proofs.ModelFacts.{decks_length}
use Rattle.seat_run.specs.Run.{run_check}
use Rattle.seat_run.specs.SeatFile.{seat_count}
use Rattle.seat_run.specs.Survey.{Surveyed}
use Rattle.seat_run.specs.Blocked.{BlockedUnplaced}
use Rattle.seat_run.proofs.RunRecords.{run_length, reply_long}
use Rattle.loads.specs.Sheet.{ship_labels, sheet_of, sheet_length}
use Rattle.loads.specs.Loads.{count_size, loads_check, LoadsReplied, lent_of}
use Rattle.loads.specs.Totals.{Totalled}
use Rattle.loads.specs.Portions.{Portioned}
use Rattle.loads.specs.Counting.{all_labels, LabelsReady, LabelsLeft, CountsReady, CountsPut, SheetReady, SheetPut, rooms_fit, TableReady, TablePut}
use Rattle.loads.proofs.SheetLaws.{sheet_length_lem}
use Rattle.loads.proofs.LabelLoop.{all_labels_long}
use Rattle.loads.proofs.CountLoop.{sheet_few}
use Rattle.loads.proofs.LoadsReply.{loads_parts, sheet_bytes_long}
use Rattle.loads.proofs.LoadsSurvey.{loads_surveyed, loads_unplaced}
use Rattle.loads.proofs.TotalsTheorem.{totalled}
use Rattle.loads.proofs.PortionsTheorem.{portioned}

-- ---- the sheet of nobody is all zeros
zero_counts : (n : ℕ) → counts_of (replicate n 0) ≡ replicate (count_size * n) 0
unfolding joined bytes8 bytes4
zero_counts zero = refl
zero_counts (suc n) =
    let e : count_size * suc n ≡ 8 + count_size * n = omega arith in
    rw e (ap (λ (l : List ℕ). replicate 8 0 ++ l) (zero_counts n) ∙ replicate-append-replicate 8 (count_size * n) 0)

nobody : (file : List ℕ) → sheet_of (ship_labels (decode file)) [] ≡ replicate (sheet_length (decode file)) 0
nobody file =
    let n = sheet_length (decode file) in
    let sheet = sheet_of (ship_labels (decode file)) [] in
    let long : length sheet ≡ n = sheet_length_lem (decode file) [] in
    ext_get_or 0 sheet (replicate n 0) (long ∙ sym (length-replicate n 0))
    (λ i h. omega (arith, get_or-replicate {A = ℕ} n i 0 0 (omega arith), sheet_few (ship_labels (decode file)) [] i))

-- ---- `put_sheet`
module _ {file seats out table work : List ℕ} (ready : SheetReady file seats out table work) where
  pub sheet_labels : LabelsReady file table work
  sheet_labels = record { yes19 = ready.yes19; table_long = ready.table_long; wide = ready.wide }

  module _ {table₁ work₁ : List ℕ} (left : LabelsLeft file table table₁ work work₁) where
    pub sheet_counts : CountsReady file seats out table₁ work₁
    sheet_counts =
        record {
          room = ready.room;
          none =
              left.table_is
              ∙ ap (λ (n : ℕ). replicate n 0) ready.table_long
              ∙ sym (ap counts_of (nobody file) ∙ zero_counts (sheet_length (decode file)));
          labels = (drop (number_size * polygon_total (decode file)) work, left.work_is);
        }

    work_long : length work₁ ≡ length work
    work_long =
        let all = all_labels (decode file) in
        let long : length (words_of all) ≡ number_size * polygon_total (decode file) = length_words all ∙ ap (λ (n : ℕ). number_size * n) (all_labels_long (decode file)) in
        rw left.work_is (simp (length-append, length-drop) (omega (arith, long, ready.wide)))

    pub sheet_put : {blocked out' table' work' : List ℕ} → CountsPut file blocked seats out out' table' → work' ≡ replicate (length work₁) 0
        → SheetPut file blocked seats out out' table' work work'
    sheet_put put z = record { counts = put; zeros = z ∙ ap (λ (n : ℕ). replicate n 0) work_long }

pub ruleset sheet_putting = (sheet_labels, sheet_counts, sheet_put)

-- ---- `Places::length`
pub sheet_many : (file : List ℕ) {total decks : ℕ} → total ≡ polygon_total (decode file) → decks ≡ decks_in file → 2 * total + decks + 1 ≡ sheet_length (decode file)
sheet_many file total_is decks_is = omega (arith, decks_length file)

-- ---- `put_table`
module _ {file seats out table work : List ℕ} (ready : TableReady file seats out table work) {n : ℕ} (long : n ≡ sheet_length (decode file)) where
  pub table_inside : count_size * n ≤ length table
  table_inside = rw long ready.table_room

  pub table_part : count_size * n ≡ length (take (count_size * n) table)
  table_part = sym (length-take-le (count_size * n) table table_inside)

  pub table_ready : SheetReady file seats out (take (count_size * n) table) work
  table_ready = record { yes19 = ready.yes19; room = ready.room; table_long = sym table_part ∙ rw long; wide = ready.wide }

  pub table_put : {blocked out' part' work' : List ℕ} → SheetPut file blocked seats out out' part' work work'
      → TablePut file blocked seats out out' table (part' ++ drop (count_size * n) table) work work'
  table_put put = record { records = put.counts.records; sheet = rw (put.counts.sheet, long); zeros = put.zeros }

pub ruleset table_putting = (table_inside, table_part, table_ready, table_put)

-- ---- `run_loads`: what the check returned, and what was said of the three rooms
module _ (file blocked seats : List ℕ) {r : Result (List ℕ) Refusal} (asked : r ≡ opened (loads_check file blocked seats) file) (out table work : List ℕ) where
  pub call_refused : {refusal : Refusal} → r ≡ Err refusal → LoadsReplied file blocked seats out out table table work work (Err refusal)
  call_refused e = tabled_refused refl (opened_err (loads_check file blocked seats) file (sym asked ∙ e))

  module _ {ship : List ℕ} (opens : r ≡ Ok ship) where
    passed : loads_check file blocked seats ≡ Ok tt
    passed = (opened_ok (loads_check file blocked seats) file (sym asked ∙ opens)).0

    ship_is : ship ≡ file
    ship_is = (opened_ok (loads_check file blocked seats) file (sym asked ∙ opens)).1

    pub call_run : run_check ship blocked seats ≡ Ok tt
    call_run = rw ship_is (loads_parts file blocked seats passed).0

    module _ {fits : Bool} (said : fits ≡ rooms_fit (decode ship) (seat_count seats) (length out) (length table) (length work)) where
      abbrev out_fits : Bool
      out_fits = question20 (record_size * seat_count seats) (length out)

      abbrev table_fits : Bool
      table_fits = question20 (count_size * sheet_length (decode file)) (length table)

      abbrev work_fits : Bool
      work_fits = question20 (count_size * polygon_total (decode file)) (length work)

      said_fits : fits ≡ (out_fits && (table_fits && work_fits))
      unfolding rooms_fit
      said_fits = rw ship_is at said

      pub call_short : not fits ≡ true → LoadsReplied file blocked seats out out table table work work (Err NoRoom)
      call_short no_room = go out_fits table_fits refl refl (said_no said_fits no_room)
        where
          go : (o t : Bool) → out_fits ≡ o → table_fits ≡ t → (o && (t && work_fits)) ≡ false → LoadsReplied file blocked seats out out table table work work (Err NoRoom)
          go false t eo et e = tabled_short refl passed (rw (reply_long file blocked seats) (q20_short (record_size * seat_count seats) (length out) eo))
          go true false eo et e = tabled_narrow refl passed (rw (sheet_bytes_long file blocked seats) (q20_short (count_size * sheet_length (decode file)) (length table) et))
          go true true eo et e = tabled_idle refl passed (q20_short (count_size * polygon_total (decode file)) (length work) e)

      module _ (has_room : not fits ≡ false) where
        rooms : TableReady file seats out table work
        rooms =
            let all = said_yes said_fits has_room in
            let o = both out_fits (table_fits && work_fits) all in
            let t = both table_fits work_fits o.1 in
            record {
              yes19 = (loads_parts file blocked seats passed).1;
              room = q20_fits (record_size * seat_count seats) (length out) o.0;
              table_room = q20_fits (count_size * sheet_length (decode file)) (length table) t.0;
              wide = q20_fits (count_size * polygon_total (decode file)) (length work) t.1;
            }

        pub call_ready : TableReady ship seats out table work
        call_ready = rw ship_is rooms

        module _ {out' table' work' : List ℕ} (put : TablePut ship blocked seats out out' table table' work work') where
          pub call_replied : LoadsReplied file blocked seats out out' table table' work work' (Ok (seat_count seats))
          call_replied =
              let long = reply_long file blocked seats in
              let bytes-long = sheet_bytes_long file blocked seats in
              let own : TablePut file blocked seats out out' table table' work work' = rw ship_is at put in
              tabled_written refl passed (omega (arith, long, rooms.room)) (omega (arith, bytes-long, rooms.table_room)) rooms.wide
              (sym (run_length (decode file) blocked seats)) (own.records ∙ rw long) (own.sheet ∙ rw bytes-long) own.zeros

          pub call_surveyed : Surveyed file blocked seats (Ok (seat_count seats)) out'
          call_surveyed = loads_surveyed file blocked (lent_of seats out table work) call_replied

          pub call_unsearched : BlockedUnplaced file blocked seats (Ok (seat_count seats)) out'
          call_unsearched = loads_unplaced file blocked (lent_of seats out table work) call_replied

          pub call_totalled : Totalled file (Ok (seat_count seats)) out' table'
          call_totalled = totalled file blocked (lent_of seats out table work) call_replied

          pub call_portioned : Portioned file blocked seats (Ok (seat_count seats)) out' table'
          call_portioned = portioned file blocked (lent_of seats out table work) call_replied

pub ruleset loads_call = (call_refused, call_run, call_short, call_ready, call_replied, call_surveyed, call_unsearched, call_totalled, call_portioned)
