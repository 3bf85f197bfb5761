-- For the loops of a search: a turn of the loop over the steps, what a hit leaves to scan, and that the numbers stay small.
use Prim.Native.Nat.{ℕ, zero, suc, ◌+◌, ◌*◌, ◌-◌, ◌≤◌, ◌<◌}
use mathlib.Core.Path.{◌≡◌, refl, ap, ◌∙◌, subst}
use mathlib.Core.List.{List, [], ◌∷◌}
use mathlib.Core.Bool.{Bool, true, false, cond}
use native.Mathlib.Omega.{arith}
use native.Mathlib.Numerals.{add-one}
use native.Mathlib.Nat.{sub-zero}
use lib.Dec.{T}
use lib.Ieee.Bits.{is_true}
use lib.ListN.{length}
use Rattle.words.specs.Rows.{collect}
use Rattle.words.proofs.Collecting.{left, none_left, collect_yes, collect_no, length_collect, sum_bound}
use Rattle.std.specs.Prelude.{Option, Some, None}
use Rattle.hits.specs.declared.Candidate.{Candidate}
use Rattle.hits.specs.declared.Hit.{Hit}
use Rattle.hits.specs.Candidates.{hit, candidate}
use Rattle.hits.specs.Hits.{polygon_hit, tried_of}
use Rattle.survey.specs.View.{Shown, View}
use Rattle.survey.specs.Search.{passes_on, turn, passing, given, turn_gives, turn_tried, candidates, tried_in, Nowhere, InStep, first_step}
use Rattle.survey.proofs.Steps.{HitIs, TurnIs, turn_is}

-- ---- a turn of the loop over the steps
module _ (v : View) (s n : ℕ) where
  pub first_step_yes : (c : Candidate) (rest : List Candidate) → s < n → candidates v s ≡ c ∷ rest → first_step v s (n - s) ≡ InStep s c rest
  unfolding first_step
  first_step_yes c rest h e = rw (left n s, e)

  pub first_step_no : s < n → candidates v s ≡ [] → first_step v s (n - s) ≡ first_step v (s + 1) (n - (s + 1))
  unfolding first_step
  first_step_no h e = rw (left n s, e)

  pub first_step_none : n ≤ s → first_step v s (n - s) ≡ Nowhere
  unfolding first_step
  first_step_none h = rw (none_left n s)

-- ---- the polygons that pass at a sample begin with the first that passes
module _ (w : Shown) (s d i : ℕ) where
  pub passing_missed : (k n : ℕ) → polygon_hit (passes_on w s d) i k n ≡ None → passing w s d i k n ≡ []
  unfolding polygon_hit collect
  passing_missed k zero e = refl
  passing_missed k (suc n) e = go (passes_on w s d i k) e (passing_missed (k + 1) n)
    where
      go : (b : Bool) → cond b (Some (hit i k)) (polygon_hit (passes_on w s d) i (k + 1) n) ≡ None
          → (polygon_hit (passes_on w s d) i (k + 1) n ≡ None → passing w s d i (k + 1) n ≡ [])
          → cond b (candidate s d i k ∷ passing w s d i (k + 1) n) (passing w s d i (k + 1) n) ≡ []
      go true q later = let z : ◌≡◌ {A = ℕ} 0 1 = cc in absurd (omega arith)
      go false q later = later q

  -- a hit at sample i: its polygon is one of the n, and those after it are left
  pub record PassingAt (k n : ℕ) (h : Hit) : Type 0 where
    pub same_sample : h.sample ≡ i
    pub from : k ≤ h.polygon
    pub below : h.polygon < k + n
    pub first : passing w s d i k n ≡ candidate s d i h.polygon ∷ passing w s d i (h.polygon + 1) (k + n - (h.polygon + 1))

  pub passing_at : (k n : ℕ) (h : Hit) → polygon_hit (passes_on w s d) i k n ≡ Some h → PassingAt k n h
  unfolding polygon_hit collect
  passing_at k zero h e = let z : ◌≡◌ {A = ℕ} 0 1 = cc in absurd (omega arith)
  passing_at k (suc n) h e = go (passes_on w s d i k) refl e (passing_at (k + 1) n h)
    where
      go : (b : Bool) → passes_on w s d i k ≡ b → cond b (Some (hit i k)) (polygon_hit (passes_on w s d) i (k + 1) n) ≡ Some h
          → (polygon_hit (passes_on w s d) i (k + 1) n ≡ Some h → PassingAt (k + 1) n h) → PassingAt k (suc n) h
      go true p q later =
          let here : hit i k ≡ h = cc in
          let rest : k + suc n - (k + 1) ≡ n = omega arith in
          subst (PassingAt k (suc n)) here (record { same_sample = refl; from = omega arith; below = omega arith; first = rw (p, rest) })
      go false p q later =
          let r = later q in
          let rest : k + suc n - (h.polygon + 1) ≡ k + 1 + n - (h.polygon + 1) = omega arith in
          record { same_sample = r.same_sample; from = omega (arith, r.from); below = omega (arith, r.below); first = rw (p, rest) r.first }

is_false : (b : Bool) → (T b → ⊥) → b ≡ false
is_false true f = absurd (f tt)
is_false false f = refl

module _ (v : View) where
  -- ---- a hit: no polygon before its own passes at its sample, so that the scan for candidates may begin there
  module _ (s d : ℕ) (h : Hit) (e : turn v.shown s d ≡ Some h) where
    hit_is : HitIs v s d h.sample h.polygon
    hit_is = subst (TurnIs v s d) e (turn_is v s d)

    pub hit_polygon : h.polygon < v.shown.polygons d
    hit_polygon = hit_is.passes.0

    pub hit_sample : h.sample ≤ 10 * s
    hit_sample = hit_is.first_hit.in_ring

    none_before : (j : ℕ) → j ≤ h.polygon → passing v.shown s d h.sample 0 (v.shown.polygons d) ≡ passing v.shown s d h.sample j (v.shown.polygons d - j)
    none_before zero l = simp sub-zero
    none_before (suc j) l =
        none_before j (omega arith)
        ∙ collect_no (passes_on v.shown s d h.sample) _ j (v.shown.polygons d) (omega (arith, hit_polygon))
        (is_false (passes_on v.shown s d h.sample j) (hit_is.none_before j (omega arith)))
        ∙ ap (λ (m : ℕ). passing v.shown s d h.sample m (v.shown.polygons d - m)) (add-one j)

    pub gives_hit : turn_gives v.shown s d ≡ candidate s d h.sample h.polygon ∷ passing v.shown s d h.sample (h.polygon + 1) (v.shown.polygons d - (h.polygon + 1))
    gives_hit =
        ap (given v.shown s d) e
        ∙ none_before h.polygon (omega arith)
        ∙ collect_yes (passes_on v.shown s d h.sample) _ h.polygon (v.shown.polygons d) hit_polygon (is_true (passes_on v.shown s d h.sample h.polygon) hit_is.passes.1)

  -- ---- the numbers stay small
  given_bound : (s d : ℕ) (t : Option Hit) → length (given v.shown s d t) ≤ v.shown.polygons d
  given_bound s d None = omega arith
  given_bound s d (Some h) =
      omega (
        arith,
        length_collect (passes_on v.shown s d h.sample) (λ j. candidate s d h.sample j ∷ []) 0 (v.shown.polygons d),
        sum_bound (passes_on v.shown s d h.sample) (λ j. 1) 1 (λ j. omega arith) 0 (v.shown.polygons d),
      )

  pub candidates_bound : (b : ℕ) → ((d : ℕ) → v.shown.polygons d ≤ b) → (s : ℕ) → length (candidates v s) ≤ v.decks * b
  candidates_bound b few s =
      omega (
        arith,
        length_collect v.opens (turn_gives v.shown s) 0 v.decks,
        sum_bound v.opens (λ d. length (turn_gives v.shown s d)) b (λ d. omega (arith, given_bound s d (turn v.shown s d), few d)) 0 v.decks,
      )

  pub turn_tried_bound : (s d : ℕ) → turn_tried v.shown s d ≤ 10 * s + 1
  turn_tried_bound s d = go (turn v.shown s d) (turn_is v s d)
    where
      go : (t : Option Hit) → TurnIs v s d t → tried_of s t ≤ 10 * s + 1
      go None h = omega arith
      go (Some f) h = omega (arith, h.first_hit.in_ring)

  pub tried_in_bound : (s : ℕ) → tried_in v s ≤ v.decks * (10 * s + 1)
  tried_in_bound s = sum_bound v.opens (turn_tried v.shown s) (10 * s + 1) (turn_tried_bound s) 0 v.decks
