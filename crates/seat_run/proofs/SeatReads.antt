-- `seat_at`: from what the readers returned to what the definitions of a seat's bytes say.
use Prim.Native.Nat.{ℕ}
use mathlib.Core.Path.{◌≡◌, sym, ◌∙◌}
use mathlib.Core.Bool.{true, not}
use mathlib.Core.List.{List}
use borrow.Author.Tests.{eq-eqb, ne_eqb}
use lib.Dec.{T}
use lib.Ieee.{Float, binary32, nan_bits}
use Rattle.geometry.specs.Bounds.{Within, PointWithin}
use Rattle.words.proofs.TableRows.{both}
use Rattle.words.proofs.Collecting.{holds}
use Rattle.ship.specs.Floats.{in_size}
use Rattle.ship.proofs.FloatBits.{size_within, in_size_not_nan}
use Rattle.survey.specs.declared.DeckChoice.{DeckChoice}
use Rattle.survey.specs.declared.Wish.TheVariants.{NoWish, Wished}
use Rattle.survey.specs.Wishes.{choice_of}
use Rattle.seat_run.specs.SeatFile.{seat_word, seat_float, deck_word, kind_word, seat_at, question16_seat}

-- ---- `seat_at`
pub record SeatFloats (s : List ℕ) (i : ℕ) : Type 0 where
  pub x_number : T (not (nan_bits binary32 (seat_word s i 0)))
  pub y_number : T (not (nan_bits binary32 (seat_word s i 1)))
  pub height_number : T (not (nan_bits binary32 (seat_word s i 4)))
  pub at_within : PointWithin 1000000 (seat_at s i).place
  pub height_within : Within 1000000 (seat_float s i 4)

pub seat_floats : (s : List ℕ) (i : ℕ) → question16_seat s i ≡ true → SeatFloats s i
unfolding question16_seat seat_at
seat_floats s i h =
    let a = both (in_size (seat_float s i 0)) _ h in
    let b = both (in_size (seat_float s i 1)) (in_size (seat_float s i 4)) a.1 in
    let x = holds (in_size (seat_float s i 0)) a.0 in
    let y = holds (in_size (seat_float s i 1)) b.0 in
    let z = holds (in_size (seat_float s i 4)) b.1 in
    record {
      x_number = in_size_not_nan 1000000 (seat_word s i 0) x;
      y_number = in_size_not_nan 1000000 (seat_word s i 1) y;
      height_number = in_size_not_nan 1000000 (seat_word s i 4) z;
      at_within = record { x = size_within 1000000 (seat_float s i 0) x; y = size_within 1000000 (seat_float s i 1) y };
      height_within = size_within 1000000 (seat_float s i 4) z;
    }

module _ (s : List ℕ) (i : ℕ) (q : question16_seat s i ≡ true) where
  pub x_number : T (not (nan_bits binary32 (seat_word s i 0)))
  x_number = (seat_floats s i q).x_number

  pub y_number : T (not (nan_bits binary32 (seat_word s i 1)))
  y_number = (seat_floats s i q).y_number

  pub wish_number : T (not (nan_bits binary32 (seat_word s i 4)))
  wish_number = (seat_floats s i q).height_number

  pub place_in : {x y : Float} → x ≡ seat_float s i 0 → y ≡ seat_float s i 1 → PointWithin 1000000 (record { x = x; y = y })
  unfolding seat_at
  place_in hx hy = rw (hx, hy) (seat_floats s i q).at_within

module _ (s : List ℕ) (i : ℕ) {x y : Float} {deck kind : ℕ} {choice : DeckChoice} (hx : x ≡ seat_float s i 0) (hy : y ≡ seat_float s i 1) (hd : deck ≡ deck_word s i)
    (hc : choice ≡ choice_of deck) (hk : kind ≡ kind_word s i) where
  pub seat_plain : kind ≡ 0 → record { place = record { x = x; y = y }; choice = choice; wish = NoWish } ≡ seat_at s i
  unfolding seat_at
  seat_plain e = rw (eq-eqb (kind_word s i) 0 (sym hk ∙ e), hx, hy, hc, hd)

  pub seat_wishing : {w : Float} → (kind ≡ 0 → ⊥) → w ≡ seat_float s i 4 → record { place = record { x = x; y = y }; choice = choice; wish = Wished w } ≡ seat_at s i
  unfolding seat_at
  seat_wishing n hw = rw (ne_eqb (kind_word s i) 0 (λ e. n (hk ∙ e)), hx, hy, hc, hd, hw)

pub ruleset reads = (x_number, y_number, wish_number, place_in, seat_plain, seat_wishing)
