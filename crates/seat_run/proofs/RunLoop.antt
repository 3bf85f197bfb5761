-- The loop over the seats, `put_records`, and the run's reply.
use Prim.Native.Nat.{ℕ, ◌+◌, ◌*◌, ◌≤◌, ◌<◌}
use native.Mathlib.Omega.{arith}
use mathlib.Core.Path.{◌≡◌, refl, sym, ◌∙◌}
use mathlib.Core.Bool.{Bool, true, false, not}
use mathlib.Core.List.{List}
use lib.ListN.{length}
use Rattle.geometry.specs.Bounds.{PointWithin}
use Rattle.words.specs.Bytes.{splice}
use Rattle.words.proofs.Writing.{Rest, rest_all, rest_more_front, rest_front}
use Rattle.answers.specs.Questions.{question20}
use Rattle.answers.specs.Replies.{Replied}
use Rattle.answers.proofs.Asking.{said_yes, q20_fits}
use Rattle.answers.proofs.Replying.{replied_refused, replied_short, replied_written, room_short, room_fits}
use Rattle.std.specs.Prelude.{Result, Ok, Err}
use Rattle.answers.specs.declared.Refusal.TheVariants.{NoRoom}
use Rattle.records.specs.declared.SeatRecord.{SeatRecord}
use Rattle.records.specs.Record.{record_size, record_bytes}
use Rattle.records.proofs.ReadBack.{no_record, record_length}
use Rattle.ship.specs.Decode.{decode}
use Rattle.survey.specs.declared.Seat.{Seat}
use Rattle.survey.specs.Search.{seat_record}
use Rattle.walking.specs.Sees.{seen_by, SearchReady}
use Rattle.seat_run.specs.SeatFile.{seat_at, seat_count, question16_seat}
use Rattle.seat_run.specs.Run.{record_of_seat, run_check, run_records, run_reply, RecordsRoom, RecordsPut}
use Rattle.decks.specs.Opened.{opened}
use Rattle.decks.proofs.Opening.{opened_err, opened_ok}
use Rattle.answers.specs.declared.Refusal.{Refusal}
use Rattle.seat_run.specs.Survey.{Surveyed}
use Rattle.seat_run.specs.Blocked.{BlockedUnplaced}
use Rattle.seat_run.proofs.SeatAsks.{RunPassed, run_yes, run_blocked, seat_yes16, seat_inside}
use Rattle.seat_run.proofs.RunRecords.{run_at, run_length, reply_long}
use Rattle.seat_run.proofs.SurveyTheorem.{surveyed}
use Rattle.seat_run.proofs.BlockedTheorem.{blocked_unplaced}
use Rattle.seat_run.proofs.NoDecksTheorem.{no_decks_replied}

-- ---- `put_seat`
module _ (file blocked seats : List ℕ) {i : ℕ} (passed : run_check file blocked seats ≡ Ok tt) (h : i < seat_count seats) where
  asked : RunPassed file blocked seats
  asked = run_yes file blocked seats passed

  pub seat_floats : question16_seat seats i ≡ true
  seat_floats = seat_yes16 asked i h

  pub seat_search : {seat : Seat} → PointWithin 1000000 seat.place → SearchReady blocked seat
  seat_search within = record { blocked_long = run_blocked file blocked seats asked; place_within = within }

pub seat_room : (seats : List ℕ) {i room : ℕ} → i < seat_count seats → record_size * seat_count seats ≤ room → record_size * i + record_size ≤ room
seat_room seats h room = omega arith

pub seat_record_lem : (file blocked seats : List ℕ) (i : ℕ) {seat : Seat} {r : SeatRecord} → seat ≡ seat_at seats i
    → r ≡ seat_record (seen_by file blocked seat) (decode file).steps → r ≡ record_of_seat (decode file) blocked seats i
seat_record_lem file blocked seats i is placed = placed ∙ rw is

pub ruleset seat_put = (seat_inside, seat_floats, seat_search, seat_room, seat_record_lem)

-- ---- `put_records`: the records of the seats below i stand in the output, and the others are left
pub record Recording (file blocked seats out₀ out : List ℕ) (i : ℕ) : Type 0 where
  pub room : RecordsRoom seats out₀
  pub rest : Rest record_bytes record_size no_record out₀ 0 (run_records file blocked seats) out i

pub recording_all : {file blocked seats out : List ℕ} → RecordsRoom seats out → Recording file blocked seats out out 0
recording_all h = record { room = h; rest = rest_all }

module _ {file blocked seats out₀ out : List ℕ} {i : ℕ} (t : Recording file blocked seats out₀ out i) where
  pub recording_long : length out ≡ length out₀
  recording_long = t.rest.long

  pub recording_room : RecordsRoom seats out
  recording_room = omega (arith, t.room, t.rest.long)

  module _ {n : ℕ} (e : n ≡ seat_count seats) where
    pub recording_none : n ≤ i → RecordsPut file blocked seats out₀ out
    recording_none h =
        rest_front t.rest record_length (omega (arith, run_length (decode file) blocked seats)) ∙ rw (run_length (decode file) blocked seats)

    pub recording_there : i < n → i < seat_count seats
    recording_there h = omega arith

    pub recording_more : {r : SeatRecord} {out' : List ℕ} → i < n → r ≡ record_of_seat (decode file) blocked seats i
        → out' ≡ splice out (record_size * i) (record_bytes r) → Recording file blocked seats out₀ out' (i + 1)
    recording_more h is w =
        let long = run_length (decode file) blocked seats in
        record {
          room = t.room;
          rest = rest_more_front t.rest record_length (omega arith) (omega (arith, t.room)) (is ∙ sym (run_at (decode file) blocked seats i (omega arith))) refl w;
        }

pub ruleset recording = (recording_all, recording_none, recording_there, recording_more, recording_long, recording_room)

-- ---- `run_over`
module _ (file blocked seats : List ℕ) {r : Result (List ℕ) Refusal} (asked : r ≡ opened (run_check file blocked seats) file) (out : List ℕ) where
  pub run_refused : {refusal : Refusal} → r ≡ Err refusal → Replied (run_reply file blocked seats) out out (Err refusal)
  run_refused e = replied_refused refl (opened_err (run_check file blocked seats) file (sym asked ∙ e))

  module _ {ship : List ℕ} (opens : r ≡ Ok ship) where
    passed : run_check file blocked seats ≡ Ok tt
    passed = (opened_ok (run_check file blocked seats) file (sym asked ∙ opens)).0

    ship_is : ship ≡ file
    ship_is = (opened_ok (run_check file blocked seats) file (sym asked ∙ opens)).1

    pub run_passed : run_check ship blocked seats ≡ Ok tt
    run_passed = rw ship_is passed

    module _ {fits : Bool} (room : fits ≡ question20 (record_size * seat_count seats) (length out)) where
      pub run_short : not fits ≡ true → Replied (run_reply file blocked seats) out out (Err NoRoom)
      run_short no_room = replied_short refl passed (room_short (run_reply file blocked seats) out record_size (seat_count seats) (reply_long file blocked seats) room no_room)

      module _ (has_room : not fits ≡ false) {out' : List ℕ} (w : RecordsPut ship blocked seats out out') where
        pub run_replied : Replied (run_reply file blocked seats) out out' (Ok (seat_count seats))
        run_replied =
            replied_written refl passed (room_fits (run_reply file blocked seats) out record_size (seat_count seats) (reply_long file blocked seats) room has_room)
            (sym (run_length (decode file) blocked seats)) ((rw ship_is at w) ∙ rw (reply_long file blocked seats))

        pub run_surveyed : Surveyed file blocked seats (Ok (seat_count seats)) out'
        run_surveyed = surveyed file blocked seats out run_replied

        pub run_unsearched : BlockedUnplaced file blocked seats (Ok (seat_count seats)) out'
        run_unsearched = blocked_unplaced file blocked seats out run_replied

pub run_room : (seats out : List ℕ) {fits : Bool} → fits ≡ question20 (record_size * seat_count seats) (length out) → not fits ≡ false → RecordsRoom seats out
run_room seats out room has_room = q20_fits (record_size * seat_count seats) (length out) (said_yes room has_room)

pub ruleset running = (run_refused, run_short, run_passed, run_room, run_replied, run_surveyed, run_unsearched, no_decks_replied)
