-- The theorem of bytes on blocked decks: every seat run that is not refused leaves a seat that names one unplaced, with nothing tried.
use Prim.Native.Nat.{ℕ, ◌<◌}
use mathlib.Core.Path.{◌≡◌, ap, ◌∙◌}
use mathlib.Core.Bool.{false}
use mathlib.Core.List.{List}
use Rattle.answers.specs.Replies.{answer_to, output_to, Replied, Answer}
use Rattle.records.specs.Record.{record_bytes}
use Rattle.records.proofs.ReadBack.{untried}
use Rattle.ship.specs.Decode.{decode}
use Rattle.survey.specs.View.{View}
use Rattle.survey.proofs.NoneOpen.{none_open, no_deck_open, nothing_tried}
use Rattle.walking.specs.Sees.{view}
use Rattle.seat_run.specs.SeatFile.{deck_word, seat_at}
use Rattle.seat_run.specs.Run.{run_reply}
use Rattle.seat_run.specs.Blocked.{NamesBlocked, BlockedUnplaced, BlockedUnplacedCode}
use Rattle.seat_run.proofs.RunRecords.{of_run, result_slice}

abbrev seen : List ℕ → List ℕ → List ℕ → ℕ → View
seen file blocked seats i = view (decode file) blocked (seat_at seats i)

closed : (file blocked seats : List ℕ) (i : ℕ) → NamesBlocked blocked seats i → (d : ℕ) → d < (seen file blocked seats i).decks → (seen file blocked seats i).opens d ≡ false
unfolding seat_at
closed file blocked seats i names d l = none_open blocked (deck_word seats i) names.0 names.1 d

blocked_run : (file blocked seats out : List ℕ) → BlockedUnplaced file blocked seats (answer_to (run_reply file blocked seats) out) (output_to (run_reply file blocked seats) out)
blocked_run file blocked seats out =
    of_run file blocked seats out (λ r. BlockedUnplaced file blocked seats r (output_to (run_reply file blocked seats) out)) (λ number. tt)
    (λ e. (
      λ i h names. no_deck_open (seen file blocked seats i) (closed file blocked seats i names),
      λ i h names.
          result_slice file blocked seats out e i h
          ∙ ap record_bytes (nothing_tried (seen file blocked seats i) (closed file blocked seats i names) (decode file).steps)
          ∙ untried,
    ))

pub blocked_unplaced : (file blocked seats out : List ℕ) {out' : List ℕ} {r : Answer} → Replied (run_reply file blocked seats) out out' r → BlockedUnplaced file blocked seats r out'
blocked_unplaced file blocked seats out h = rw (h.answer_is, h.output_is) (blocked_run file blocked seats out)

pub blocked_unplaced_code : (file blocked seats out : List ℕ) {out' : List ℕ} {r : Answer} → Replied (run_reply file blocked seats) out out' r
    → BlockedUnplacedCode file blocked seats out out'
blocked_unplaced_code file blocked seats out h = rw h.output_is (blocked_run file blocked seats out)
