-- Chains through a list of three: 'an earlier one', one way, in any order, through those that drop out.
use Prim.Native.Nat.{ℕ}
use mathlib.Core.Path.{◌≡◌, refl}
use mathlib.Core.Bool.{Bool, ◌&&◌, ◌||◌}
use mathlib.Core.List.{List, [], ◌∷◌}
use lib.Dec.{eqb}
use Rattle.words.specs.Rows.{some, collect}
use Rattle.touching.specs.Reach.{within, drops, merged}

abbrev hop : ℕ → ℕ → ℕ → ℕ → Bool
hop a b x y = eqb x a && eqb y b

abbrev three : List ℕ
three = 10 ∷ 11 ∷ 12 ∷ []

-- 10 touches 12, 12 touches 11: 11 drops out by way of one that comes after it and drops out itself
pub through_a_later_one : merged (λ a b. hop 10 12 a b || hop 12 11 a b) three ≡ 10 ∷ []
unfolding merged drops within some collect
through_a_later_one = refl

-- 11 touches 10: one-way, and only an earlier one counts
pub backwards : merged (hop 11 10) three ≡ three
unfolding merged drops within some collect
backwards = refl
