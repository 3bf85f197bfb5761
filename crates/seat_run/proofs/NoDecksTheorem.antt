-- The theorem of bytes on a hull with no decks: a run's reply there is `no_decks_reply`.
use Prim.Native.Nat.{ℕ, zero, suc, ◌+◌}
use mathlib.Core.Path.{◌≡◌, refl, ap, ap₂, subst, ◌∙◌}
use mathlib.Core.List.{List, ◌++◌}
use lib.IntN.{ℤ}
use Rattle.words.specs.Bytes.{joined}
use Rattle.words.specs.Rows.{rows, collect, collect_all}
use Rattle.answers.specs.Replies.{Reply, Replied, code_of, Answer}
use Rattle.answers.proofs.Asking.{none_there, each_same}
use Rattle.answers.proofs.Replying.{replied_code}
use Rattle.records.specs.declared.SeatRecord.{SeatRecord}
use Rattle.records.specs.Record.{record_bytes, records_bytes, unplaced_record, untried_bytes}
use Rattle.records.proofs.ReadBack.{untried}
use Rattle.ship.specs.Layout.{decks_in}
use Rattle.ship.specs.Decode.{decode}
use Rattle.ship.proofs.NoDecks.{no_decks_asked, no_deck_below}
use Rattle.survey.proofs.NoneOpen.{nothing_tried}
use Rattle.walking.specs.Sees.{view}
use Rattle.seat_run.specs.SeatFile.{deck_word, seat_at, seat_count, seat_check}
use Rattle.seat_run.specs.Run.{record_of_seat, run_check, run_records, run_reply}
use Rattle.seat_run.specs.NoDecks.{unnamed_check, no_decks_check, no_decks_reply, NoDecksReplied, NoDecksCode}
use Rattle.seat_run.proofs.RunRecords.{run_rows, run_length}

untried_rows : (f : ℕ → SeatRecord) → ((i : ℕ) → f i ≡ unplaced_record 0) → (n i : ℕ) → records_bytes (rows f i n) ≡ collect_all (λ j. untried_bytes) i n
unfolding joined rows collect
untried_rows f h zero i = refl
untried_rows f h (suc n) i = ap₂ ◌++◌ (ap record_bytes (h i) ∙ untried) (untried_rows f h n (i + 1))

module _ (file blocked seats : List ℕ) (none : decks_in file ≡ 0) where
  unnamed : (i : ℕ) → seat_check seats (decks_in file) i ≡ unnamed_check seats i
  unfolding seat_check unnamed_check
  unnamed i = rw (none, none_there (deck_word seats i))

  check_is : run_check file blocked seats ≡ no_decks_check file blocked seats
  unfolding run_check no_decks_check
  check_is = rw (no_decks_asked file none, each_same (seat_check seats (decks_in file)) (unnamed_check seats) unnamed (seat_count seats) 0)

  -- no deck is open, since none is there
  pub seat_untried : (i : ℕ) → record_of_seat (decode file) blocked seats i ≡ unplaced_record 0
  seat_untried i = nothing_tried (view (decode file) blocked (seat_at seats i)) (λ d l. absurd (no_deck_below file none l)) (decode file).steps

  no_decks_bytes : records_bytes (run_records file blocked seats) ≡ collect_all (λ i. untried_bytes) 0 (seat_count seats)
  no_decks_bytes = rw (run_rows (decode file) blocked seats) (untried_rows (record_of_seat (decode file) blocked seats) seat_untried (seat_count seats) 0)

  pub no_decks_reply_lem : run_reply file blocked seats ≡ no_decks_reply file blocked seats
  no_decks_reply_lem = rw (check_is, run_length (decode file) blocked seats, no_decks_bytes)

-- ---- the theorem
module _ (file blocked seats out : List ℕ) {out' : List ℕ} {r : Answer} (h : Replied (run_reply file blocked seats) out out' r) where
  pub no_decks_replied : NoDecksReplied file blocked seats out out' r
  no_decks_replied = record { replied = λ none. subst (λ (reply : Reply). Replied reply out out' r) (no_decks_reply_lem file blocked seats none) h }

  pub no_decks_code : {z : ℤ} → z ≡ code_of r → NoDecksCode file blocked seats out out' z
  no_decks_code e = record { replied = λ none. replied_code (no_decks_replied.replied none) e }
