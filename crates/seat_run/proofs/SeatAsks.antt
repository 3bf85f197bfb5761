-- The questions of a seat, of a list of seats and of a run: from what the calls returned to the answer, and from a passed run back to each yes.
use Prim.Native.Nat.{ℕ, ◌+◌, ◌*◌, ◌%◌, ◌≤◌, ◌<◌}
use native.Mathlib.Nat.{div-mul-le_self}
use native.Mathlib.Omega.{arith}
use mathlib.Core.Path.{◌≡◌, sym, ap, ◌∙◌}
use mathlib.Core.Bool.{Bool, true, false, not}
use mathlib.Core.List.{List}
use borrow.Author.Tests.{eq-eqb, ne_eqb}
use lib.Dec.{eqb}
use lib.ListN.{length}
use Rattle.words.proofs.TableRows.{both}
use Rattle.answers.specs.Checks.{ask, check_each, Check}
use Rattle.answers.specs.Questions.{question14, question17}
use Rattle.answers.proofs.Asking.{asking, said_no, said_yes, asked_yes, both_passed, each_passed, checking, blocked_32}
use Rattle.std.specs.Prelude.{Result, Ok, Err}
use Rattle.answers.specs.declared.Refusal.{Refusal}
use Rattle.answers.specs.declared.Refusal.TheVariants.{WrongLength, KindNotAllowed, CallFloatOutOfRange, NoSuchDeck}
use Rattle.ship.specs.Layout.{decks_in}
use Rattle.ship.specs.Questions.{first_no}
use Rattle.seat_run.specs.SeatFile.{seat_size, seat_count, deck_word, kind_word, height_word, kind_allowed, question14_seats, question15, question16_seat, seat_check}
use Rattle.seat_run.specs.Run.{run_check}
use Rattle.decks.specs.Opened.{opened}
use Rattle.decks.proofs.Opening.{opened_err, opened_ok}

-- ---- `seat_check`
module _ (s : List ℕ) (i : ℕ) where
  pub kind_asked : {kind height : ℕ} {r : Bool} → kind ≡ kind_word s i → height ≡ height_word s i → r ≡ kind_allowed kind height → r ≡ question15 s i
  kind_asked e f g = rw (e, f) at g

  pub deck_asked : (decks : ℕ) {deck : ℕ} {r : Bool} → deck ≡ deck_word s i → r ≡ question17 decks deck → r ≡ question17 decks (deck_word s i)
  deck_asked decks e f = rw e at f

  pub seat_is : (decks : ℕ) {v : Check} → v ≡ ask (question15 s i) KindNotAllowed (ask (question16_seat s i) CallFloatOutOfRange (ask (question17 decks (deck_word s i)) NoSuchDeck (Ok tt))) → v ≡ seat_check s decks i
  unfolding seat_check
  seat_is decks e = e

pub ruleset seat_asks = (asking, kind_asked, deck_asked, seat_is)

-- ---- `seats_check`
-- a seat of a list lies inside it
pub seat_inside : (s : List ℕ) {i n : ℕ} → i < n → n ≡ seat_count s → seat_size * i + seat_size ≤ length s
seat_inside s {i} {n} h e = omega (arith, div-mul-le_self (length s) seat_size, h, e)

pub ruleset seats_asks = (checking, seat_inside)

-- ---- `run_check`
module _ (blocked seats : List ℕ) {b : Bool} (asked : b ≡ question14 blocked) where
  pub blocked_no : not b ≡ true → question14_seats blocked seats ≡ false
  unfolding question14_seats
  blocked_no e = rw (said_no asked e)

  module _ (whole : not b ≡ false) where
    pub seats_no : (length seats % seat_size ≡ 0 → ⊥) → question14_seats blocked seats ≡ false
    unfolding question14_seats
    seats_no n = rw (said_yes asked whole, ne_eqb (length seats % seat_size) 0 n)

    pub seats_whole : length seats % seat_size ≡ 0 → question14_seats blocked seats ≡ true
    unfolding question14_seats
    seats_whole e = rw (said_yes asked whole, eq-eqb (length seats % seat_size) 0 e)

module _ (file blocked seats : List ℕ) {r : Result (List ℕ) Refusal} (asked : r ≡ opened (first_no file) file) where
  pub file_no : {refusal : Refusal} → r ≡ Err refusal → Err refusal ≡ opened (run_check file blocked seats) file
  unfolding run_check
  file_no e = rw (opened_err (first_no file) file (sym asked ∙ e))

  module _ {ship : List ℕ} (opens : r ≡ Ok ship) where
    pub length_no : question14_seats blocked seats ≡ false → Err WrongLength ≡ opened (run_check file blocked seats) file
    unfolding run_check
    length_no wrong = rw ((opened_ok (first_no file) file (sym asked ∙ opens)).0, wrong)

    module _ (whole : question14_seats blocked seats ≡ true) {decks : ℕ} (there : decks ≡ decks_in ship) {seen : Check}
        (all : seen ≡ check_each (seat_check seats decks) 0 (seat_count seats)) where
      list_asked : opened (run_check file blocked seats) file ≡ opened seen ship
      unfolding run_check
      list_asked =
          let o = opened_ok (first_no file) file (sym asked ∙ opens) in
          rw (o.0, whole, all, there, o.1)

      pub list_no : {refusal : Refusal} → seen ≡ Err refusal → Err refusal ≡ opened (run_check file blocked seats) file
      list_no e = sym (list_asked ∙ ap (λ (v : Check). opened v ship) e)

      pub list_yes : seen ≡ Ok tt → Ok ship ≡ opened (run_check file blocked seats) file
      list_yes e = sym (list_asked ∙ ap (λ (v : Check). opened v ship) e)

pub ruleset run_asks = (blocked_no, seats_no, seats_whole, file_no, length_no, list_no, list_yes)

-- ---- a passed run
pub record RunPassed (file blocked seats : List ℕ) : Type 0 where
  pub file_passed : first_no file ≡ Ok tt
  pub yes14 : question14_seats blocked seats ≡ true
  pub seats_passed : check_each (seat_check seats (decks_in file)) 0 (seat_count seats) ≡ Ok tt

module _ (file blocked seats : List ℕ) where
  pub run_yes : run_check file blocked seats ≡ Ok tt → RunPassed file blocked seats
  unfolding run_check
  run_yes h =
      let a = both_passed (first_no file) _ h in
      let b = asked_yes (question14_seats blocked seats) WrongLength _ a.1 in
      record { file_passed = a.0; yes14 = b.0; seats_passed = b.1 }

  pub run_passed : RunPassed file blocked seats → run_check file blocked seats ≡ Ok tt
  unfolding run_check
  run_passed y = rw (y.file_passed, y.yes14) y.seats_passed

  pub run_blocked : RunPassed file blocked seats → length blocked ≡ 32
  unfolding question14_seats
  run_blocked y = blocked_32 blocked (both (question14 blocked) (eqb (length seats % seat_size) 0) y.yes14).0

-- the floats of each seat passed
pub seat_yes16 : {file blocked seats : List ℕ} → RunPassed file blocked seats → (i : ℕ) → i < seat_count seats → question16_seat seats i ≡ true
unfolding seat_check
seat_yes16 {file} {blocked} {seats} y i l =
    let a = asked_yes (question15 seats i) KindNotAllowed _ (each_passed (seat_check seats (decks_in file)) (seat_count seats) y.seats_passed i l) in
    (asked_yes (question16_seat seats i) CallFloatOutOfRange _ a.1).0
