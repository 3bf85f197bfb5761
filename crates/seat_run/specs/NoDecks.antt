-- Document 02, point 5, of bytes: what a run on a file with L 0 answers. No deck, no sample and no search is in it.
use Rattle.std.specs.Prelude.{ℕ, ◌≡◌, List, eqb, ℤ, Ok}
use Rattle.words.specs.Bytes.{all_ones}
use Rattle.words.specs.Rows.{collect_all}
use Rattle.answers.specs.Checks.{ask, after, check_each, Check}
use Rattle.answers.specs.Replies.{Reply, Replied, RepliedCode, Answer}
use Rattle.answers.specs.declared.Refusal.TheVariants.{WrongLength, KindNotAllowed, CallFloatOutOfRange, NoSuchDeck}
use Rattle.records.specs.Record.{untried_bytes}
use Rattle.ship.specs.Layout.{decks_in}
use Rattle.ship.specs.Questions.{header_alone}
use Rattle.seat_run.specs.SeatFile.{deck_word, seat_count, question14_seats, question15, question16_seat}

-- 15 to 17 of a seat: 'a seat naming a deck still gets 17'
unfoldable pub unnamed_check : List ℕ → ℕ → Check
unnamed_check s i =
    ask (question15 s i) KindNotAllowed
    (ask (question16_seat s i) CallFloatOutOfRange (ask (eqb (deck_word s i) all_ones) NoSuchDeck (Ok tt)))

-- the questions of the run before 20
unfoldable pub no_decks_check : List ℕ → List ℕ → List ℕ → Check
no_decks_check file blocked seats =
    after (header_alone file) (ask (question14_seats blocked seats) WrongLength (check_each (unnamed_check seats) 0 (seat_count seats)))

-- 'no seat is placed, nothing is tried': 36 bytes a seat, all ones and then zeros
abbrev pub no_decks_reply : List ℕ → List ℕ → List ℕ → Reply
no_decks_reply file blocked seats =
    record {
      check = no_decks_check file blocked seats;
      count = seat_count seats;
      bytes = collect_all (λ i. untried_bytes) 0 (seat_count seats);
    }

-- what a run promises on such a file, and over C
pub record NoDecksReplied (file blocked seats out out' : List ℕ) (r : Answer) : Type 0 where
  pub replied : decks_in file ≡ 0 → Replied (no_decks_reply file blocked seats) out out' r

pub record NoDecksCode (file blocked seats out out' : List ℕ) (code : ℤ) : Type 0 where
  pub replied : decks_in file ≡ 0 → RepliedCode (no_decks_reply file blocked seats) out out' code
