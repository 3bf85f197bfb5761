-- A list run in portions, of bytes: a portion of a list that passes its questions passes them too, their records are the whole's and their tables added are its table.
use Prim.Native.Nat.{ℕ, zero, suc, ◌+◌, ◌*◌, ◌%◌, ◌<◌}
use native.Mathlib.Omega.{arith}
use native.Mathlib.Nat.{add_assoc}
use mathlib.Core.Path.{◌≡◌, refl, sym, ap, ap₂, ◌∙◌}
use mathlib.Core.Bool.{true}
use mathlib.Core.List.{List, [], ◌∷◌, ◌++◌}
use borrow.Author.Tests.{eq-eqb}
use lib.Dec.{eqb}
use lib.ListN.{length, get_or, length-append, get_or-append}
use lib.Seq.{get_or-append-add}
use Rattle.words.specs.Bytes.{u32_at, joined, count_at}
use Rattle.words.specs.Rows.{rows, All, added}
use Rattle.words.proofs.TableRows.{both, rows_same, rows_append, all_map}
use Rattle.words.proofs.Writing.{joined_append}
use Rattle.answers.specs.Questions.{question14}
use Rattle.answers.specs.Replies.{reply_check, Answer}
use Rattle.answers.proofs.Asking.{each_passed, passed_each}
use Rattle.std.specs.Prelude.{Ok}
use Rattle.records.specs.declared.SeatRecord.{SeatRecord}
use Rattle.records.specs.Record.{record_bytes, records_bytes, record_slice}
use Rattle.ship.specs.Layout.{decks_in}
use Rattle.ship.specs.Decode.{decode}
use Rattle.seat_run.specs.SeatFile.{seat_size, seat_word, seat_at, seat_count, question14_seats, question16_seat, seat_check}
use Rattle.seat_run.specs.Run.{run_check, record_of_seat, seat_run, run_records}
use Rattle.seat_run.proofs.SeatAsks.{RunPassed, run_yes, run_passed}
use Rattle.seat_run.proofs.RunRecords.{run_rows}
use Rattle.loads.specs.Sheet.{ship_labels, sheet_length}
use Rattle.loads.specs.Loads.{Lent, labels_check, loads_check, LoadsReplied, run_sheet, asked_reply, loads_answer, loads_output, loads_table}
use Rattle.loads.specs.Portions.{Portion, Joins, Portioned, PortionedCode, sum_portions, seats_in, records_left, AllJoin}
use Rattle.loads.proofs.SheetLaws.{get_d_added, sheet_append}
use Rattle.loads.proofs.LoadsReply.{loads_parts, loads_passed, asked_passed, passed_asked, answer_asked, of_loads, records_left_lem, slice_left, table_read}

-- ---- two lists that agree on the bytes of a seat
module _ (s t : List ℕ) (i j : ℕ) (same : (b : ℕ) → b < seat_size → get_or s (seat_size * i + b) 0 ≡ get_or t (seat_size * j + b) 0) where
  word_same : (k : ℕ) → k < 5 → seat_word s i k ≡ seat_word t j k
  unfolding u32_at
  word_same k h =
      let e : (b : ℕ) → b < 4 → get_or s (seat_size * i + 4 * k + b) 0 ≡ get_or t (seat_size * j + 4 * k + b) 0
      = λ b l. rw (add_assoc (seat_size * i) (4 * k) b, add_assoc (seat_size * j) (4 * k) b) (same (4 * k + b) (omega arith)) in
      rw (same (4 * k) (omega arith), e 1 (omega arith), e 2 (omega arith), e 3 (omega arith))

  seat_same : seat_at s i ≡ seat_at t j
  unfolding seat_at
  seat_same = rw (word_same 0 (omega arith), word_same 1 (omega arith), word_same 2 (omega arith), word_same 3 (omega arith), word_same 4 (omega arith))

  check_same : (decks : ℕ) → seat_check s decks i ≡ seat_check t decks j
  unfolding seat_check question16_seat
  check_same decks = rw (word_same 0 (omega arith), word_same 1 (omega arith), word_same 2 (omega arith), word_same 3 (omega arith), word_same 4 (omega arith))

-- ---- a list in two portions, the first of whole seats
module _ (front back : List ℕ) where
  module _ (i : ℕ) (h : i < seat_count front) where
    front_byte : (b : ℕ) → b < seat_size → get_or (front ++ back) (seat_size * i + b) 0 ≡ get_or front (seat_size * i + b) 0
    front_byte b l = get_or-append front back 0 (seat_size * i + b) (omega arith)

    pub seat_front : seat_at (front ++ back) i ≡ seat_at front i
    seat_front = seat_same (front ++ back) front i i front_byte

    pub check_front : (decks : ℕ) → seat_check (front ++ back) decks i ≡ seat_check front decks i
    check_front = check_same (front ++ back) front i i front_byte

  module _ (whole : length front % seat_size ≡ 0) where
    pub count_append : seat_count (front ++ back) ≡ seat_count front + seat_count back
    count_append = rw length-append (omega arith)

    module _ (i : ℕ) where
      back_byte : (b : ℕ) → b < seat_size → get_or (front ++ back) (seat_size * (seat_count front + i) + b) 0 ≡ get_or back (seat_size * i + b) 0
      back_byte b l =
          let e : seat_size * (seat_count front + i) + b ≡ length front + (seat_size * i + b) = omega arith in
          rw e (get_or-append-add front back (seat_size * i + b) 0)

      pub seat_back : seat_at (front ++ back) (seat_count front + i) ≡ seat_at back i
      seat_back = seat_same (front ++ back) back (seat_count front + i) i back_byte

      pub check_back : (decks : ℕ) → seat_check (front ++ back) decks (seat_count front + i) ≡ seat_check back decks i
      check_back = check_same (front ++ back) back (seat_count front + i) i back_byte

-- ---- rows in two parts
rows_shift : {A : Type 0} (f g : ℕ → A) (k n i : ℕ) → ((j : ℕ) → f (k + j) ≡ g j) → rows f (k + i) n ≡ rows g i n
unfolding rows
rows_shift f g k zero i same = refl
rows_shift f g k (suc n) i same =
    let e : k + i + 1 ≡ k + (i + 1) = omega arith in
    rw (e, same i, rows_shift f g k n (i + 1) same)

-- ---- the run of a list in two portions
module _ (file blocked front back : List ℕ) (whole : length front % seat_size ≡ 0) where
  module _ (passed : run_check file blocked (front ++ back) ≡ Ok tt) where
    asked : RunPassed file blocked (front ++ back)
    asked = run_yes file blocked (front ++ back) passed

    each_seat : (i : ℕ) → i < seat_count front + seat_count back → seat_check (front ++ back) (decks_in file) i ≡ Ok tt
    each_seat i h =
        each_passed (seat_check (front ++ back) (decks_in file)) (seat_count (front ++ back)) asked.seats_passed i (omega (arith, count_append front back whole))

    -- 14 of other seats asks the same of the blocked set
    yes14_of : (seats : List ℕ) → length seats % seat_size ≡ 0 → question14_seats blocked seats ≡ true
    unfolding question14_seats
    yes14_of seats w =
        rw ((both (question14 blocked) (eqb (length (front ++ back) % seat_size) 0) asked.yes14).0, eq-eqb (length seats % seat_size) 0 w)

    pub run_front : run_check file blocked front ≡ Ok tt
    run_front =
        run_passed file blocked front
        (record {
          file_passed = asked.file_passed;
          yes14 = yes14_of front whole;
          seats_passed = passed_each (seat_check front (decks_in file)) (seat_count front) (λ i h. sym (check_front front back i h (decks_in file)) ∙ each_seat i (omega arith));
        })

    pub run_back : length back % seat_size ≡ 0 → run_check file blocked back ≡ Ok tt
    run_back w =
        run_passed file blocked back
        (record {
          file_passed = asked.file_passed;
          yes14 = yes14_of back w;
          seats_passed =
              passed_each (seat_check back (decks_in file)) (seat_count back)
              (λ i h. sym (check_back front back whole i (decks_in file)) ∙ each_seat (seat_count front + i) (omega arith));
        })

  abbrev of_whole : ℕ → SeatRecord
  of_whole = record_of_seat (decode file) blocked (front ++ back)

  pub record_front : (i : ℕ) → i < seat_count front → of_whole i ≡ record_of_seat (decode file) blocked front i
  record_front i h = rw (seat_front front back i h)

  pub record_back : (i : ℕ) → of_whole (seat_count front + i) ≡ record_of_seat (decode file) blocked back i
  record_back i = rw (seat_back front back whole i)

  -- the rows of the back, which start past those of the front
  back_rows : rows of_whole (0 + seat_count front) (seat_count back) ≡ rows (record_of_seat (decode file) blocked back) 0 (seat_count back)
  back_rows =
      let z : 0 + seat_count front ≡ seat_count front + 0 = omega arith in
      rw z (rows_shift of_whole (record_of_seat (decode file) blocked back) (seat_count front) (seat_count back) 0 record_back)

  pub records_append : run_records file blocked (front ++ back) ≡ run_records file blocked front ++ run_records file blocked back
  records_append =
      run_rows (decode file) blocked (front ++ back)
      ∙ rw (count_append front back whole) (rows_append of_whole 0 (seat_count front) (seat_count back))
      ∙ ap₂ ◌++◌ (rows_same of_whole (record_of_seat (decode file) blocked front) (seat_count front) 0 (λ j a b. record_front j (omega arith))) back_rows
      ∙ sym (ap₂ ◌++◌ (run_rows (decode file) blocked front) (run_rows (decode file) blocked back))

  pub sheet_sum : run_sheet file blocked (front ++ back) ≡ added (run_sheet file blocked front) (run_sheet file blocked back)
  sheet_sum = rw records_append (sheet_append (ship_labels (decode file)) (run_records file blocked front) (run_records file blocked back))

  -- each entry of the sheet
  pub entry_sum : (k : ℕ) → get_or (run_sheet file blocked (front ++ back)) k 0 ≡ get_or (run_sheet file blocked front) k 0 + get_or (run_sheet file blocked back) k 0
  entry_sum k = rw sheet_sum (get_d_added (run_sheet file blocked front) (run_sheet file blocked back) k)

-- ---- a portion is answered where the questions of its seats pass: it has the room
pub portion_answered : (file blocked : List ℕ) (lent : Lent) → Portion file lent → loads_check file blocked lent.seats ≡ Ok tt
    → reply_check (asked_reply file blocked lent) (length lent.out) ≡ Ok tt
portion_answered file blocked lent p e = asked_passed file blocked lent e p.out_room p.table_room p.work_room

-- ---- the theorem, of two portions
module _ (file blocked : List ℕ) (lent : Lent) (passed : reply_check (asked_reply file blocked lent) (length lent.out) ≡ Ok tt) (front back : Lent)
    (split : lent.seats ≡ front.seats ++ back.seats) (pf : Portion file front) (pb : Portion file back) where
  both_asked : (run_check file blocked (front.seats ++ back.seats) ≡ Ok tt) × (loads_check file blocked (front.seats ++ back.seats) ≡ Ok tt)
  both_asked =
      let a = rw split at (passed_asked file blocked lent passed).passed in
      ((loads_parts file blocked (front.seats ++ back.seats) a).0, a)

  front_passed : reply_check (asked_reply file blocked front) (length front.out) ≡ Ok tt
  front_passed =
      portion_answered file blocked front pf
      (loads_passed file blocked front.seats (run_front file blocked front.seats back.seats pf.whole both_asked.0)
      (loads_parts file blocked (front.seats ++ back.seats) both_asked.1).1)

  back_passed : reply_check (asked_reply file blocked back) (length back.out) ≡ Ok tt
  back_passed =
      portion_answered file blocked back pb
      (loads_passed file blocked back.seats (run_back file blocked front.seats back.seats pf.whole both_asked.0 pb.whole)
      (loads_parts file blocked (front.seats ++ back.seats) both_asked.1).1)

  counted : seat_count front.seats + seat_count back.seats ≡ seat_count lent.seats
  counted = rw split (sym (count_append front.seats back.seats pf.whole))

  slice_whole : (i : ℕ) → i < seat_count lent.seats → record_slice (loads_output file blocked lent) i ≡ record_bytes (record_of_seat (decode file) blocked (front.seats ++ back.seats) i)
  slice_whole i h = slice_left file blocked lent passed i h ∙ ap (λ (s : List ℕ). record_bytes (record_of_seat (decode file) blocked s i)) split

  joins : Joins file blocked (seat_count lent.seats) (loads_output file blocked lent) (loads_table file blocked lent) front back
  joins =
      record {
        front_answer = answer_asked file blocked front front_passed;
        back_answer = answer_asked file blocked back back_passed;
        in_all = counted;
        front_records =
            λ i h.
            slice_left file blocked front front_passed i h
            ∙ ap record_bytes (sym (record_front file blocked front.seats back.seats pf.whole i h))
            ∙ sym (slice_whole i (omega (arith, counted)));
        back_records =
            λ i h.
            slice_left file blocked back back_passed i h
            ∙ ap record_bytes (sym (record_back file blocked front.seats back.seats pf.whole i))
            ∙ sym (slice_whole (seat_count front.seats + i) (omega (arith, counted)));
        tables =
            λ k h.
            ap₂ ◌+◌ (table_read file blocked front front_passed k h) (table_read file blocked back back_passed k h)
            ∙ sym (entry_sum file blocked front.seats back.seats pf.whole k)
            ∙ ap (λ (s : List ℕ). get_or (run_sheet file blocked s) k 0) (sym split)
            ∙ sym (table_read file blocked lent passed k h);
      }

-- ---- of any number of portions
module _ (file blocked : List ℕ) where
  abbrev Answered : Lent → Type 0
  Answered lent = reply_check (asked_reply file blocked lent) (length lent.out) ≡ Ok tt

  -- a run on no seats has no records, and its sheet is all zeros: it is what is left when it is added to itself
  no_entry : (k : ℕ) → get_or (run_sheet file blocked []) k 0 ≡ 0
  no_entry k = omega (arith, entry_sum file blocked [] [] refl k)

  no_records : records_bytes (run_records file blocked []) ≡ []
  unfolding joined seat_run rows
  no_records = refl

  whole_seats : (portions : List Lent) → All (Portion file) portions → length (seats_in portions) % seat_size ≡ 0
  unfolding joined
  whole_seats [] p = refl
  whole_seats (lent ∷ portions) p = rw length-append (omega (arith, p.0.whole, whole_seats portions p.1))

  -- each passes its questions, as the front of the portions that are left
  all_answered : labels_check (decode file) ≡ Ok tt → (portions : List Lent) → All (Portion file) portions → run_check file blocked (seats_in portions) ≡ Ok tt
      → All Answered portions
  unfolding joined
  all_answered labels [] p h = tt
  all_answered labels (lent ∷ portions) p h = (
    portion_answered file blocked lent p.0 (loads_passed file blocked lent.seats (run_front file blocked lent.seats (seats_in portions) p.0.whole h) labels),
    all_answered labels portions p.1 (run_back file blocked lent.seats (seats_in portions) p.0.whole h (whole_seats portions p.1)),
  )

  all_counted : (portions : List Lent) → All (Portion file) portions → sum_portions (λ portion. seat_count portion.seats) portions ≡ seat_count (seats_in portions)
  unfolding joined sum_portions
  all_counted [] p = refl
  all_counted (lent ∷ portions) p = omega (arith, all_counted portions p.1, count_append lent.seats (seats_in portions) p.0.whole)

  all_records : (portions : List Lent) → All (Portion file) portions → All Answered portions
      → joined (records_left file blocked) portions ≡ records_bytes (run_records file blocked (seats_in portions))
  unfolding joined
  all_records [] p a = sym no_records
  all_records (lent ∷ portions) p a =
      ap₂ ◌++◌ (records_left_lem file blocked lent a.0) (all_records portions p.1 a.1)
      ∙ sym (joined_append record_bytes (run_records file blocked lent.seats) (run_records file blocked (seats_in portions)))
      ∙ ap records_bytes (sym (records_append file blocked lent.seats (seats_in portions) p.0.whole))

  all_tables : (k : ℕ) → k < sheet_length (decode file) → (portions : List Lent) → All (Portion file) portions → All Answered portions
      → sum_portions (λ portion. count_at (loads_table file blocked portion) k) portions ≡ get_or (run_sheet file blocked (seats_in portions)) k 0
  unfolding joined sum_portions
  all_tables k h [] p a = sym (no_entry k)
  all_tables k h (lent ∷ portions) p a =
      ap₂ ◌+◌ (table_read file blocked lent a.0 k h) (all_tables k h portions p.1 a.1)
      ∙ sym (entry_sum file blocked lent.seats (seats_in portions) p.0.whole k)

all_join : (file blocked : List ℕ) (lent : Lent) → reply_check (asked_reply file blocked lent) (length lent.out) ≡ Ok tt
    → (portions : List Lent) → seats_in portions ≡ lent.seats → All (Portion file) portions
    → AllJoin file blocked (seat_count lent.seats) (loads_output file blocked lent) (loads_table file blocked lent) portions
all_join file blocked lent passed portions split p =
    let asked = loads_parts file blocked lent.seats (passed_asked file blocked lent passed).passed in
    let a = all_answered file blocked asked.1 portions p (rw split asked.0) in
    record {
      answers =
          all_map (Answered file blocked) (λ portion. loads_answer file blocked portion ≡ Ok (seat_count portion.seats))
          (λ portion e. answer_asked file blocked portion e) portions a;
      in_all = all_counted file blocked portions p ∙ ap seat_count split;
      records =
          all_records file blocked portions p a
          ∙ ap (λ (s : List ℕ). records_bytes (run_records file blocked s)) split
          ∙ sym (records_left_lem file blocked lent passed);
      tables =
          λ k h.
          all_tables file blocked k h portions p a
          ∙ ap (λ (s : List ℕ). get_or (run_sheet file blocked s) k 0) split
          ∙ sym (table_read file blocked lent passed k h);
    }

-- ---- the theorem
portioned_run : (file blocked : List ℕ) (lent : Lent)
    → Portioned file blocked lent.seats (loads_answer file blocked lent) (loads_output file blocked lent) (loads_table file blocked lent)
portioned_run file blocked lent =
    of_loads file blocked lent (λ r. Portioned file blocked lent.seats r (loads_output file blocked lent) (loads_table file blocked lent)) (λ number. tt)
    (λ e. (λ front back split pf pb. joins file blocked lent e front back (sym split) pf pb, λ portions split p. all_join file blocked lent e portions split p))

pub portioned : (file blocked : List ℕ) (lent : Lent) {out' table' work' : List ℕ} {r : Answer}
    → LoadsReplied file blocked lent.seats lent.out out' lent.table table' lent.work work' r → Portioned file blocked lent.seats r out' table'
portioned file blocked lent h =
    rw (h.worked.replied.answer_is, h.worked.replied.output_is, h.table_is) (portioned_run file blocked lent)

pub portioned_code : (file blocked : List ℕ) (lent : Lent) {out' table' work' : List ℕ} {r : Answer}
    → LoadsReplied file blocked lent.seats lent.out out' lent.table table' lent.work work' r → PortionedCode file blocked lent out' table'
portioned_code file blocked lent h = rw (h.worked.replied.output_is, h.table_is) (portioned_run file blocked lent)
