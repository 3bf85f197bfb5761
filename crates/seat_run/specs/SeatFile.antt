-- Document 01, section 7: a seat list's bytes, and the questions asked of them.
use Rattle.std.specs.Prelude.{ℕ, ◌+◌, ◌*◌, ◌/◌, ◌%◌, List, Bool, ◌&&◌, ◌||◌, cond, eqb, length, Float, Ok}
use Rattle.words.specs.Bytes.{u32_at, f32_at}
use Rattle.words.specs.Rows.{rows}
use Rattle.answers.specs.Checks.{ask, Check}
use Rattle.answers.specs.Questions.{question14, question17}
use Rattle.answers.specs.declared.Refusal.TheVariants.{KindNotAllowed, CallFloatOutOfRange, NoSuchDeck}
use Rattle.ship.specs.Floats.{in_size}
use Rattle.survey.specs.declared.Seat.{Seat}
use Rattle.survey.specs.declared.Wish.TheVariants.{NoWish, Wished}
use Rattle.survey.specs.Wishes.{choice_of}

-- ---- a seat, 20 bytes: x, y (f32), deck (all ones: any), kind (0 or 1), height (f32)
abbrev pub seat_size : ℕ
seat_size = 20

-- number k of seat i, and the float of its bits
abbrev pub seat_word : List ℕ → ℕ → ℕ → ℕ
seat_word s i k = u32_at s (seat_size * i + 4 * k)

abbrev pub seat_float : List ℕ → ℕ → ℕ → Float
seat_float s i k = f32_at s (seat_size * i + 4 * k)

abbrev pub deck_word : List ℕ → ℕ → ℕ
deck_word s i = seat_word s i 2

abbrev pub kind_word : List ℕ → ℕ → ℕ
kind_word s i = seat_word s i 3

abbrev pub height_word : List ℕ → ℕ → ℕ
height_word s i = seat_word s i 4

-- kind 0 has no wish
unfoldable pub seat_at : List ℕ → ℕ → Seat
seat_at s i =
    record {
      place = record { x = seat_float s i 0; y = seat_float s i 1 };
      choice = choice_of (deck_word s i);
      wish = cond (eqb (kind_word s i) 0) NoWish (Wished (seat_float s i 4));
    }

abbrev pub seat_count : List ℕ → ℕ
seat_count s = length s / seat_size

abbrev pub seats_of : List ℕ → List Seat
seats_of s = rows (seat_at s) 0 (seat_count s)

-- ---- the questions
-- 14 Blocked set 32 bytes, seats a multiple of 20?
unfoldable pub question14_seats : List ℕ → List ℕ → Bool
question14_seats blocked seats = question14 blocked && eqb (length seats % seat_size) 0

-- 15 kind 0 or 1, unused height zero bits?
unfoldable pub kind_allowed : ℕ → ℕ → Bool
kind_allowed kind height = (eqb kind 0 && eqb height 0) || eqb kind 1

abbrev pub question15 : List ℕ → ℕ → Bool
question15 s i = kind_allowed (kind_word s i) (height_word s i)

-- 16 floats as in 11?
unfoldable pub question16_seat : List ℕ → ℕ → Bool
question16_seat s i = in_size (seat_float s i 0) && (in_size (seat_float s i 1) && in_size (seat_float s i 4))

unfoldable pub seat_check : List ℕ → ℕ → ℕ → Check
seat_check s decks i =
    ask (question15 s i) KindNotAllowed
    (ask (question16_seat s i) CallFloatOutOfRange (ask (question17 decks (deck_word s i)) NoSuchDeck (Ok tt)))
