-- The questions of a query: from what the calls returned and the tests found to the answer, and from a passed query to what a search needs.
use Prim.Native.Nat.{ℕ}
use mathlib.Core.Path.{◌≡◌, sym, ap, ◌∙◌}
use mathlib.Core.Bool.{Bool, true, false}
use mathlib.Core.List.{List}
use Rattle.geometry.specs.declared.Vec2.{Vec2}
use Rattle.geometry.specs.Bounds.{PointWithin}
use Rattle.words.proofs.TableRows.{both}
use Rattle.words.proofs.Collecting.{holds}
use Rattle.answers.specs.Questions.{question14}
use Rattle.answers.proofs.Asking.{asked_yes, both_passed, blocked_32}
use Rattle.std.specs.Prelude.{Ok}
use Rattle.answers.specs.declared.Refusal.TheVariants.{WrongLength, CallFloatOutOfRange}
use Rattle.ship.specs.Floats.{in_size}
use Rattle.ship.specs.Questions.{first_no}
use Rattle.ship.proofs.FloatBits.{size_within}
use Rattle.survey.specs.declared.DeckChoice.{DeckChoice}
use Rattle.survey.specs.declared.Seat.{Seat}
use Rattle.survey.specs.declared.Wish.TheVariants.{NoWish}
use Rattle.survey.specs.Wishes.{choice_of}
use Rattle.walking.specs.Sees.{SearchReady}
use Rattle.walking.specs.Lists.{Sifted, WalkReady}
use Rattle.calls.specs.Closest.{question16, asked_at, query_check}

-- ---- `place_in_size`: where the first test fails its flag is the answer, and otherwise the second's
module _ (p : Vec2) {i : Bool} (hi : i ≡ in_size p.x) where
  pub place_x : i ≡ false → i ≡ question16 p
  unfolding question16
  place_x t = t ∙ rw (sym hi ∙ t)

  pub place_y : {j : Bool} → j ≡ in_size p.y → i ≡ true → j ≡ question16 p
  unfolding question16
  place_y hj t = hj ∙ rw (sym hi ∙ t)

pub ruleset places = (place_x, place_y)

pub size_of_place : (p : Vec2) → question16 p ≡ true → PointWithin 1000000 p
unfolding question16
size_of_place p h =
    let s = both (in_size p.x) (in_size p.y) h in
    record { x = size_within 1000000 p.x (holds (in_size p.x) s.0); y = size_within 1000000 p.y (holds (in_size p.y) s.1) }

-- ---- `asked_at`
pub asked_is : (p : Vec2) (deck : ℕ) {choice : DeckChoice} → choice ≡ choice_of deck → record { place = p; choice = choice; wish = NoWish } ≡ asked_at p deck
asked_is p deck e = ap (λ (c : DeckChoice). record { place = p; choice = c; wish = NoWish }) e

-- ---- a passed query
module _ (file : List ℕ) (p : Vec2) (deck : ℕ) (blocked : List ℕ) (passed : query_check file p deck blocked ≡ Ok tt) where
  pub query_passed : first_no file ≡ Ok tt
  unfolding query_check
  query_passed = (both_passed (first_no file) _ passed).0

  pub query_ready : {seat : Seat} → seat ≡ asked_at p deck → SearchReady blocked seat
  unfolding query_check
  query_ready e =
      let f = both_passed (first_no file) _ passed in
      let b = asked_yes (question14 blocked) WrongLength _ f.1 in
      let s = asked_yes (question16 p) CallFloatOutOfRange _ b.1 in
      record {
        blocked_long = blocked_32 blocked b.0;
        place_within = rw e (size_of_place p s.0);
      }

  pub query_walk : {ship : List ℕ} {seat : Seat} {kept : List ℕ} → ship ≡ file → seat ≡ asked_at p deck → Sifted ship seat.place kept → WalkReady ship blocked seat kept
  query_walk same e sifted = record { file_passed = rw same query_passed; search_ready = query_ready e; sifted = sifted }
