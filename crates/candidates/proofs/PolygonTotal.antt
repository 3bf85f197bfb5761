-- No step has more candidates than all decks have polygons.
use Prim.Native.Nat.{ℕ, zero, suc, ◌+◌, ◌≤◌}
use native.Mathlib.Omega.{arith}
use mathlib.Core.Logic.{⊎_elim}
use mathlib.Core.Bool.{Bool, true, false, cond}
use mathlib.Core.List.{List}
use lib.ListN.{length}
use Rattle.words.specs.Rows.{sum_of, sum_all}
use Rattle.hits.specs.Candidates.{candidate}
use Rattle.ship.specs.Model.{deck_of, polygons_before, polygon_total}
use Rattle.ship.specs.Decode.{decode}
use Rattle.survey.specs.declared.Seat.{Seat}
use Rattle.survey.specs.View.{View}
use Rattle.survey.specs.Search.{turn_gives}
use Rattle.survey.proofs.Steps.{count_is, how_many}
use Rattle.touching.proofs.Counting.{count_bound}
use Rattle.walking.specs.Sees.{shown_from, seen_by}
use Rattle.numbering.specs.Numbers.{step_numbers}
use Rattle.numbering.proofs.NumberLoop.{numbers_length}

abbrev on_deck : List ℕ → ℕ → ℕ
on_deck file d = length (deck_of (decode file) d).polygons

-- a sum over some of the numbers is no greater than over all, of summands that are no smaller
sum_part : (p : ℕ → Bool) (f g : ℕ → ℕ) → ((k : ℕ) → f k ≤ g k) → (i n : ℕ) → sum_of p f i n ≤ sum_all g i n
unfolding sum_of
sum_part p f g h i zero = omega arith
sum_part p f g h i (suc n) = go (p i) (sum_part p f g h (i + 1) n)
  where
    go : (b : Bool) → sum_of p f (i + 1) n ≤ sum_all g (i + 1) n → cond b (f i + sum_of p f (i + 1) n) (sum_of p f (i + 1) n) ≤ g i + sum_all g (i + 1) n
    go true l = omega (arith, h i)
    go false l = omega arith

turn_few : (v : View) (s d : ℕ) → length (turn_gives v.shown s d) ≤ v.shown.polygons d
turn_few v s d = ⊎_elim (λ h. omega (arith, h.1)) (λ h. omega (arith, h.2, count_bound (λ k. v.shown.passes (candidate s d h.0 k)) (v.shown.polygons d))) (count_is v s d)

pub numbers_few : (file blocked : List ℕ) (seat : Seat) (s : ℕ) → length (step_numbers file blocked seat s) ≤ polygon_total (decode file)
unfolding step_numbers polygons_before shown_from
numbers_few file blocked seat s =
    let v = seen_by file blocked seat in
    let few : sum_of v.opens (λ d. length (turn_gives v.shown s d)) 0 v.decks ≤ sum_all (on_deck file) 0 v.decks =
    sum_part v.opens (λ d. length (turn_gives v.shown s d)) (on_deck file) (turn_few v s) 0 v.decks in
    omega (arith, few, how_many v s, numbers_length file blocked seat s)
