-- The polygons that a kept list has a search look at: they rise, they are there, and each polygon between two of them is one of the others.
use Prim.Native.Nat.{ℕ, ◌+◌, ◌-◌, ◌≤◌, ◌<◌}
use native.Mathlib.Omega.{arith}
use mathlib.Core.Path.{◌≡◌, refl, ◌∙◌}
use mathlib.Core.Bool.{Bool, true, false}
use mathlib.Core.List.{List}
use lib.Dec.{ltb}
use lib.ListN.{length, get_or}
use borrow.Author.Tests.{ltb-true, ltb-false, lt-ltb, le-ltb}
use Rattle.geometry.specs.declared.Vec2.{Vec2}
use Rattle.ship.specs.Model.{Deck}
use Rattle.search.specs.OnDeck.{passes_at}
use Rattle.keeping.specs.Kept.{sought_at, sought_count, ListIn, KeptAt}

module _ (numbers : List ℕ) (rest : ℕ) where
  pub sought_listed : (j : ℕ) → j < length numbers → sought_at numbers rest j ≡ get_or numbers j 0
  sought_listed j h = rw (lt-ltb j (length numbers) h)

  pub sought_past : (j : ℕ) → length numbers ≤ j → sought_at numbers rest j ≡ rest + (j - length numbers)
  sought_past j h = rw (le-ltb j (length numbers) h)

module _ {n : ℕ} {numbers : List ℕ} {rest : ℕ} (l : ListIn n numbers rest) where
  pub sought_end : sought_at numbers rest (sought_count n numbers rest) ≡ n
  sought_end = omega (arith, sought_past numbers rest (sought_count n numbers rest) (omega arith), l.there)

  pub sought_below : (j : ℕ) → j < sought_count n numbers rest → sought_at numbers rest j < n
  sought_below j h = go (ltb j (length numbers)) refl
    where
      go : (t : Bool) → ltb j (length numbers) ≡ t → sought_at numbers rest j < n
      go true e =
          let listed = ltb-true j (length numbers) e in
          omega (arith, sought_listed numbers rest j listed, l.below j listed, l.there)
      go false e = omega (arith, sought_past numbers rest j (ltb-false j (length numbers) e), ltb-false j (length numbers) e, l.there)

  pub sought_rises : (i j : ℕ) → i < j → sought_at numbers rest i < sought_at numbers rest j
  sought_rises i j h = go (ltb i (length numbers)) refl (ltb j (length numbers)) refl
    where
      go : (s : Bool) → ltb i (length numbers) ≡ s → (t : Bool) → ltb j (length numbers) ≡ t → sought_at numbers rest i < sought_at numbers rest j
      go true e true f =
          let before = ltb-true i (length numbers) e in
          let listed = ltb-true j (length numbers) f in
          omega (arith, sought_listed numbers rest i before, sought_listed numbers rest j listed, l.rising i j h listed)
      go true e false f =
          let before = ltb-true i (length numbers) e in
          let past = ltb-false j (length numbers) f in
          omega (arith, sought_listed numbers rest i before, l.below i before, sought_past numbers rest j past)
      go false e t f =
          let past = ltb-false i (length numbers) e in
          let after : length numbers ≤ j = omega arith in
          omega (arith, sought_past numbers rest i past, sought_past numbers rest j after)

  -- ---- a polygon after those before number j, and before number j
  module _ (j k : ℕ) (after : (i : ℕ) → i < j → sought_at numbers rest i < k) (before : k < sought_at numbers rest j) where
    not_listed : (m : ℕ) → m < length numbers → get_or numbers m 0 ≡ k → ⊥
    not_listed m h e = go (ltb m j) refl
      where
        same : sought_at numbers rest m ≡ k
        same = sought_listed numbers rest m h ∙ e

        go : (t : Bool) → ltb m j ≡ t → ⊥
        go true f = omega (arith, after m (ltb-true m j f), same)
        go false f = later (ltb j m) refl
          where
            later : (t : Bool) → ltb j m ≡ t → ⊥
            later true g = omega (arith, sought_rises j m (ltb-true j m g), same)
            later false g =
                let at : j ≡ m = omega (arith, ltb-false m j f, ltb-false j m g) in
                let here : sought_at numbers rest j ≡ k = rw at same in
                omega arith

    under_rest : k < rest
    under_rest = go (ltb k rest) refl
      where
        go : (t : Bool) → ltb k rest ≡ t → k < rest
        go true e = ltb-true k rest e
        go false e = absurd (past (ltb j (length numbers)) refl)
          where
            past : (t : Bool) → ltb j (length numbers) ≡ t → ⊥
            past true f =
                let listed = ltb-true j (length numbers) f in
                omega (arith, sought_listed numbers rest j listed, l.below j listed, ltb-false k rest e)
            past false f =
                let m : ℕ = length numbers + (k - rest) in
                let under : m < j = omega (arith, sought_past numbers rest j (ltb-false j (length numbers) f), ltb-false k rest e, ltb-false j (length numbers) f) in
                omega (arith, after m under, sought_past numbers rest m (omega arith), ltb-false k rest e)

    between_fails : {deck : Deck} {q : Vec2} → KeptAt deck numbers rest q → passes_at deck q k ≡ false
    between_fails at = at.others k under_rest not_listed

-- ---- where the list is kept: a polygon before the first that is looked at, and one between two of them, does not pass
module _ {deck : Deck} {numbers : List ℕ} {rest : ℕ} {q : Vec2} (at : KeptAt deck numbers rest q) where
  pub earlier_fails : (k : ℕ) → k < sought_at numbers rest 0 → passes_at deck q k ≡ false
  earlier_fails k h = between_fails at.list 0 k (λ i l. let none : ⊥ = omega arith in absurd none) h at

  pub later_fails : (j k : ℕ) → sought_at numbers rest j < k → k < sought_at numbers rest (j + 1) → passes_at deck q k ≡ false
  later_fails j k after before = between_fails at.list (j + 1) k earlier before at
    where
      earlier : (i : ℕ) → i < j + 1 → sought_at numbers rest i < k
      earlier i h = go (ltb i j) refl
        where
          go : (t : Bool) → ltb i j ≡ t → sought_at numbers rest i < k
          go true e = omega (arith, sought_rises at.list i j (ltb-true i j e))
          go false e =
              let is : i ≡ j = omega (arith, ltb-false i j e) in
              rw is after
