-- The first polygon that passes at a point, among polygons of which the first ones fail; and `next_hit`, what its loop says at its start, in a turn and where
-- it ends.
use Prim.Native.Nat.{ℕ, zero, suc, ◌+◌, ◌-◌, ◌≤◌, ◌<◌}
use native.Mathlib.Omega.{arith}
use mathlib.Core.Path.{◌≡◌, refl, sym, ap, ◌∙◌}
use mathlib.Core.Bool.{Bool, true, false}
use lib.Dec.{ltb}
use lib.ListN.{length}
use borrow.Author.Tests.{ltb-true, ltb-false}
use Rattle.std.specs.Prelude.{Some, None}
use Rattle.geometry.specs.declared.Vec2.{Vec2}
use Rattle.hits.specs.Candidates.{hit}
use Rattle.hits.specs.Hits.{polygon_hit}
use Rattle.hits.proofs.HitLoops.{polygon_hit_yes, polygon_hit_no, polygon_hit_none}
use Rattle.ship.specs.Model.{Deck}
use Rattle.search.specs.OnDeck.{passes_at, next_hit}

-- no polygon from a on and before b passes at q
abbrev pub NonePass : Deck → Vec2 → ℕ → ℕ → Type 0
NonePass deck q a b = (k : ℕ) → a ≤ k → k < b → passes_at deck q k ≡ false

module _ (deck : Deck) (q : Vec2) (i a : ℕ) where
  past : (n d : ℕ) → a + d ≤ n → NonePass deck q a (a + d)
      → polygon_hit (λ h j. passes_at deck q j) i a (n - a) ≡ polygon_hit (λ h j. passes_at deck q j) i (a + d) (n - (a + d))
  past n zero l none =
      let none_more : a ≡ a + 0 = omega arith in
      ap (λ (x : ℕ). polygon_hit (λ h j. passes_at deck q j) i x (n - x)) none_more
  past n (suc d) l none =
      let next : a + d + 1 ≡ a + suc d = omega arith in
      past n d (omega arith) (λ k from below. none k from (omega arith))
      ∙ polygon_hit_no (λ h j. passes_at deck q j) i (a + d) n (omega arith) (none (a + d) (omega arith) (omega arith))
      ∙ ap (λ (x : ℕ). polygon_hit (λ h j. passes_at deck q j) i x (n - x)) next

  pub first_is : (k : ℕ) → a ≤ k → k < length deck.polygons → NonePass deck q a k → passes_at deck q k ≡ true → Some (hit i k) ≡ next_hit deck q i a
  unfolding next_hit
  first_is k from below none passes =
      let n : ℕ = length deck.polygons in
      let at : a + (k - a) ≡ k = omega arith in
      sym
      (past n (k - a) (omega arith) (rw at none)
      ∙ rw at (polygon_hit_yes (λ h j. passes_at deck q j) i k n below passes))

  pub none_is : NonePass deck q a (length deck.polygons) → None ≡ next_hit deck q i a
  unfolding next_hit
  none_is none = sym (go (ltb a (length deck.polygons)) refl)
    where
      go : (t : Bool) → ltb a (length deck.polygons) ≡ t → polygon_hit (λ h j. passes_at deck q j) i a (length deck.polygons - a) ≡ None
      go true e =
          let n : ℕ = length deck.polygons in
          let below = ltb-true a n e in
          let at : a + (n - a) ≡ n = omega arith in
          past n (n - a) (omega arith) (rw at none)
          ∙ rw at (polygon_hit_none (λ h j. passes_at deck q j) i n n (omega arith))
      go false e = polygon_hit_none (λ h j. passes_at deck q j) i a (length deck.polygons) (ltb-false a (length deck.polygons) e)

-- ---- `next_hit`: of the deck's n polygons none from `from` on and before k passed
pub record PolygonsLeft (deck : Deck) (q : Vec2) (n from k : ℕ) : Type 0 where
  pub counts : length deck.polygons ≡ n
  pub onward : from ≤ k
  pub none : NonePass deck q from k

pub polygons_all : (deck : Deck) (from : ℕ) {q : Vec2} {n : ℕ} → n ≡ length deck.polygons → PolygonsLeft deck q n from from
polygons_all deck from e =
    record { counts = sym e; onward = omega arith; none = λ k l below. let no : ⊥ = omega arith in absurd no }

module _ {deck : Deck} {q : Vec2} {n from k : ℕ} (m : PolygonsLeft deck q n from k) where
  module _ {r : Bool} (test : r ≡ passes_at deck q k) where
    pub polygons_more : r ≡ false → PolygonsLeft deck q n from (k + 1)
    polygons_more e = record { counts = m.counts; onward = omega (arith, m.onward); none = λ j l below. go j l below (ltb j k) refl }
      where
        go : (j : ℕ) → from ≤ j → j < k + 1 → (t : Bool) → ltb j k ≡ t → passes_at deck q j ≡ false
        go j l below true f = m.none j l (ltb-true j k f)
        go j l below false f =
            let at : k ≡ j = omega (arith, ltb-false j k f) in
            rw (← at) (sym test ∙ e)

    pub next_is : (i : ℕ) → k < n → r ≡ true → Some (hit i k) ≡ next_hit deck q i from
    next_is i h e = first_is deck q i from k m.onward (omega (arith, m.counts)) m.none (sym test ∙ e)

  pub next_none : (i : ℕ) → n ≤ k → None ≡ next_hit deck q i from
  next_none i h = none_is deck q i from (λ j l below. m.none j l (omega (arith, m.counts)))

pub ruleset nexts = (polygons_all, polygons_more, next_is, next_none)
