-- Document 02, point 1, of bytes: a seat that names a blocked deck is unplaced, and no sample was tried for it.
use Rattle.std.specs.Prelude.{ℕ, ◌<◌, ◌≡◌, true, List, Ok, Err}
use Rattle.words.specs.Bytes.{all_ones}
use Rattle.answers.specs.Replies.{answer_to, Answer}
use Rattle.records.specs.Record.{record_slice, untried_bytes}
use Rattle.ship.specs.Decode.{decode}
use Rattle.survey.specs.Wishes.{is_blocked}
use Rattle.survey.specs.Survey.{open_decks}
use Rattle.walking.specs.Sees.{view}
use Rattle.seat_run.specs.SeatFile.{deck_word, seat_at}
use Rattle.seat_run.specs.Run.{run_reply}

-- seat i names a deck, and that deck is in the blocked set
abbrev pub NamesBlocked : List ℕ → List ℕ → ℕ → Type 0
NamesBlocked blocked seats i = (deck_word seats i ≡ all_ones → ⊥) × (is_blocked blocked (deck_word seats i) ≡ true)

-- What holds of a run on these bytes that answered so and left this output: D is 0 for such a seat, and these are its record's bytes.
abbrev pub BlockedUnplaced : List ℕ → List ℕ → List ℕ → Answer → List ℕ → Type 0
BlockedUnplaced file blocked seats (Err refusal) out = Unit {0}
BlockedUnplaced file blocked seats (Ok n) out =
    ((i : ℕ) → i < n → NamesBlocked blocked seats i → open_decks (view (decode file) blocked (seat_at seats i)) ≡ 0)
    × ((i : ℕ) → i < n → NamesBlocked blocked seats i → record_slice out i ≡ untried_bytes)

-- the same of a run over C, whose answer is a number
abbrev pub BlockedUnplacedCode : List ℕ → List ℕ → List ℕ → List ℕ → List ℕ → Type 0
BlockedUnplacedCode file blocked seats out out' = BlockedUnplaced file blocked seats (answer_to (run_reply file blocked seats) out) out'
