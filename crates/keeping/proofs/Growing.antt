-- A list that is made of another by going over what that one looks at: so far it has the numbers `made`, and its `rest` is what comes next. It grows by a
-- polygon that is passed over, since it does not pass, or by one that is kept.
use Prim.Native.Nat.{ℕ, ◌+◌, ◌≤◌, ◌<◌}
use native.Mathlib.Omega.{arith}
use mathlib.Core.Path.{◌≡◌, refl, ap, ◌∙◌}
use mathlib.Core.Bool.{Bool, true, false}
use mathlib.Core.List.{List, [], ◌∷◌, ◌++◌}
use lib.Dec.{ltb}
use lib.ListN.{length, get_or, get_or-append}
use lib.Seq.{get_or-append_seam}
use Rattle.std.proofs.lemmas.List.{length-append}
use borrow.Author.Tests.{ltb-true, ltb-false}
use Rattle.geometry.specs.declared.Vec2.{Vec2}
use Rattle.ship.specs.Model.{Deck}
use Rattle.search.specs.OnDeck.{passes_at}
use Rattle.keeping.specs.Kept.{sought_at, sought_count, ListIn, OthersFail, KeptAt}
use Rattle.keeping.proofs.SoughtLaws.{sought_end, sought_below, sought_rises, earlier_fails, later_fails}

-- ---- a list with one number more
module _ (made : List ℕ) (x : ℕ) where
  one_longer : length (made ++ x ∷ []) ≡ length made + 1
  one_longer = length-append made (x ∷ [])

  before : (i : ℕ) → i < length made → get_or (made ++ x ∷ []) i 0 ≡ get_or made i 0
  before i h = get_or-append made (x ∷ []) 0 i h

  last : (i : ℕ) → i ≡ length made → get_or (made ++ x ∷ []) i 0 ≡ x
  last i e = ap (λ (m : ℕ). get_or (made ++ x ∷ []) m 0) e ∙ get_or-append_seam made x [] 0

module _ {n : ℕ} {source : List ℕ} {source_rest : ℕ} (s : ListIn n source source_rest) where
  sought_most : (j : ℕ) → j ≤ sought_count n source source_rest → sought_at source source_rest j ≤ n
  sought_most j h = go (ltb j (sought_count n source source_rest)) refl
    where
      go : (t : Bool) → ltb j (sought_count n source source_rest) ≡ t → sought_at source source_rest j ≤ n
      go true e = omega (arith, sought_below s j (ltb-true j (sought_count n source source_rest) e))
      go false e =
          let at : j ≡ sought_count n source source_rest = omega (arith, ltb-false j (sought_count n source source_rest) e) in
          omega (arith, ap (sought_at source source_rest) at, sought_end s)

  -- ---- the list with nothing in it yet
  pub list_none : ListIn n [] (sought_at source source_rest 0)
  list_none =
      record {
        rising = λ i j l b. let none : ⊥ = omega arith in absurd none;
        below = λ j b. let none : ⊥ = omega arith in absurd none;
        few = omega arith;
        there = sought_most 0 (omega arith);
      }

  module _ {made : List ℕ} {j : ℕ} (l : ListIn n made (sought_at source source_rest j)) (h : j < sought_count n source source_rest) where
    next : sought_at source source_rest j < sought_at source source_rest (j + 1)
    next = sought_rises s j (j + 1) (omega arith)

    -- ---- one polygon passed over
    pub list_skips : ListIn n made (sought_at source source_rest (j + 1))
    list_skips =
        record {
          rising = l.rising;
          below = λ i b. omega (arith, next, l.below i b);
          few = omega (arith, next, l.few);
          there = sought_most (j + 1) (omega arith);
        }

    -- ---- one kept
    pub list_keeps : ListIn n (made ++ sought_at source source_rest j ∷ []) (sought_at source source_rest (j + 1))
    list_keeps =
        record {
          rising = rising';
          below = λ i b. omega (arith, next, at_most i b (ltb i (length made)) refl);
          few = omega (arith, l.few, next, one_longer made x);
          there = sought_most (j + 1) (omega arith);
        }
      where
        x : ℕ
        x = sought_at source source_rest j

        at_most : (i : ℕ) → i < length (made ++ x ∷ []) → (t : Bool) → ltb i (length made) ≡ t → get_or (made ++ x ∷ []) i 0 ≤ x
        at_most i b true e = omega (arith, before made x i (ltb-true i (length made) e), l.below i (ltb-true i (length made) e))
        at_most i b false e = omega (arith, last made x i (omega (arith, one_longer made x, ltb-false i (length made) e)))

        rising' : (i i' : ℕ) → i < i' → i' < length (made ++ x ∷ []) → get_or (made ++ x ∷ []) i 0 < get_or (made ++ x ∷ []) i' 0
        rising' i i' up b = go (ltb i' (length made)) refl
          where
            go : (t : Bool) → ltb i' (length made) ≡ t → get_or (made ++ x ∷ []) i 0 < get_or (made ++ x ∷ []) i' 0
            go true e =
                let under = ltb-true i' (length made) e in
                omega (arith, before made x i (omega arith), before made x i' under, l.rising i i' up under)
            go false e =
                let is : i' ≡ length made = omega (arith, one_longer made x, ltb-false i' (length made) e) in
                let under : i < length made = omega arith in
                omega (arith, before made x i under, l.below i under, last made x i' is)

-- ---- the others, at a point where the list that is gone over is kept
module _ {deck : Deck} {source : List ℕ} {source_rest : ℕ} {q : Vec2} (s : KeptAt deck source source_rest q) where
  pub others_none : OthersFail deck [] (sought_at source source_rest 0) q
  others_none k h absent = earlier_fails s k h

  module _ (made : List ℕ) (j : ℕ) (o : OthersFail deck made (sought_at source source_rest j) q) where
    pub others_skip : passes_at deck q (sought_at source source_rest j) ≡ false → OthersFail deck made (sought_at source source_rest (j + 1)) q
    others_skip fails k h absent = go (ltb k x) refl (ltb x k) refl
      where
        x : ℕ
        x = sought_at source source_rest j

        go : (t : Bool) → ltb k x ≡ t → (u : Bool) → ltb x k ≡ u → passes_at deck q k ≡ false
        go true e u f = o k (ltb-true k x e) absent
        go false e true f = later_fails s j k (ltb-true x k f) h
        go false e false f =
            let is : x ≡ k = omega (arith, ltb-false k x e, ltb-false x k f) in
            rw (← is) fails

    pub others_keep : OthersFail deck (made ++ sought_at source source_rest j ∷ []) (sought_at source source_rest (j + 1)) q
    others_keep k h absent = go (ltb k x) refl (ltb x k) refl
      where
        x : ℕ
        x = sought_at source source_rest j

        go : (t : Bool) → ltb k x ≡ t → (u : Bool) → ltb x k ≡ u → passes_at deck q k ≡ false
        go true e u f = o k (ltb-true k x e) (λ i b is. absent i (omega (arith, one_longer made x)) (before made x i b ∙ is))
        go false e true f = later_fails s j k (ltb-true x k f) h
        go false e false f =
            let is : x ≡ k = omega (arith, ltb-false k x e, ltb-false x k f) in
            absurd (absent (length made) (omega (arith, one_longer made x)) (last made x (length made) refl ∙ is))
