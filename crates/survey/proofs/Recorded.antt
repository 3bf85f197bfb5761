-- What the record of a seat tells of its search: whether anything was found, in which step, how much, and the first where there is no wish.
use Prim.Native.Nat.{ℕ, ◌+◌, ◌*◌, ◌^◌, ◌≤◌, ◌<◌}
use mathlib.Core.Path.{◌≡◌, refl, sym, ap, ◌∙◌, subst}
use mathlib.Core.Bool.{Bool, true, false, cond}
use mathlib.Core.List.{List, [], ◌∷◌}
use mathlib.Core.Logic.{inl, inr, ⊎_elim}
use native.Mathlib.Omega.{arith}
use lib.Ieee.{binary32, to_bits}
use lib.ListN.{length, take}
use borrow.Author.Tests.{eqb-true}
use Rattle.words.specs.Bytes.{all_ones}
use Rattle.words.proofs.Collecting.{In}
use Rattle.records.specs.declared.SeatRecord.{SeatRecord}
use Rattle.records.specs.Record.{is_unplaced}
use Rattle.hits.specs.declared.Candidate.{Candidate}
use Rattle.survey.specs.declared.Wish.TheVariants.{NoWish}
use Rattle.survey.specs.Wishes.{nearer}
use Rattle.survey.specs.View.{View}
use Rattle.survey.specs.Search.{candidates, better, best_of, Found, Nowhere, InStep, first_step, found_in, record_of, seat_record}
use Rattle.survey.proofs.Steps.{of_candidates, StepIs, first_step_is}

-- a packed polygon of a deck that is there is not all ones
pub not_all_ones : (d k n : ℕ) → d < 256 → k < n → n ≤ 16777215 → d * 2 ^ 24 + k ≡ all_ones → ⊥
not_all_ones d k n h l m e = omega arith

-- the chosen candidate is one of the list
best_in : (v : View) (c : Candidate) (l : List Candidate) → In (best_of v c l) (c ∷ l)
unfolding best_of
best_in v c [] = inl refl
best_in v c (d ∷ l) = go (better v d c) (best_in v d l) (best_in v c l)
  where
    go : (b : Bool) → In (best_of v d l) (d ∷ l) → In (best_of v c l) (c ∷ l) → In (best_of v (cond b d c) l) (c ∷ d ∷ l)
    go true p q = inr p
    go false p q = ⊎_elim (λ e. inl e) (λ m. inr (inr m)) q

-- without a wish the first stays
best_first : (v : View) → v.wish ≡ NoWish → (c : Candidate) (l : List Candidate) → best_of v c l ≡ c
unfolding best_of nearer
best_first v none c [] = refl
best_first v none c (d ∷ l) = rw none (best_first v none c l)

-- what a placed seat's record says
pub record Recorded (v : View) (S : ℕ) (r : SeatRecord) : Type 0 where
  pub below : r.step < S
  pub all : found_in (first_step v 0 S) ≡ candidates v r.step
  pub count : r.candidates ≡ length (found_in (first_step v 0 S))

-- and without a wish
pub record RecordedFirst (v : View) (S : ℕ) (r : SeatRecord) : Type 0 where
  pub candidate : Candidate
  pub first : take 1 (found_in (first_step v 0 S)) ≡ candidate ∷ []
  pub polygon_is : r.polygon ≡ candidate.deck * 2 ^ 24 + candidate.polygon
  pub x_is : r.x ≡ to_bits binary32 (v.shown.place candidate).x
  pub y_is : r.y ≡ to_bits binary32 (v.shown.place candidate).y

module _ (v : View) (S : ℕ) {r : SeatRecord} (is : r ≡ seat_record v S) where
  module _ (few_decks : v.decks ≤ 256) (few_polygons : (d : ℕ) → v.shown.polygons d ≤ 16777215) where
    placed_polygon : (t : ℕ) (c : Candidate) (rest : List Candidate) → candidates v t ≡ c ∷ rest → (record_of v S (InStep t c rest)).polygon ≡ all_ones → ⊥
    placed_polygon t c rest found =
        let best = best_of v c rest in
        let on = of_candidates v t best (subst (In best) (sym found) (best_in v c rest)) in
        not_all_ones best.deck best.polygon (v.shown.polygons best.deck) (omega (arith, on.on_open.0)) on.passes.0 (few_polygons best.deck)

    pub nothing_found : is_unplaced r ≡ true → found_in (first_step v 0 S) ≡ []
    unfolding seat_record
    nothing_found e = go (first_step v 0 S) (first_step_is v 0 S) (sym (ap (λ (q : SeatRecord). q.polygon) is) ∙ eqb-true r.polygon all_ones e)
      where
        go : (f : Found) → StepIs v 0 S f → (record_of v S f).polygon ≡ all_ones → found_in f ≡ []
        go Nowhere h e' = refl
        go (InStep t c rest) h e' = absurd (placed_polygon t c rest h.2 e')

  -- the last step, and its candidates
  last_step : (P : Type 0) → ((t : ℕ) (c : Candidate) (rest : List Candidate) → first_step v 0 S ≡ InStep t c rest → StepIs v 0 S (InStep t c rest) → r ≡ record_of v S (InStep t c rest) → P)
      → is_unplaced r ≡ false → P
  unfolding seat_record
  last_step P found e = go (first_step v 0 S) refl (first_step_is v 0 S) is
    where
      go : (f : Found) → first_step v 0 S ≡ f → StepIs v 0 S f → r ≡ record_of v S f → P
      go Nowhere q h e' = let z : true ≡ false = sym (rw e') ∙ e in let y : ◌≡◌ {A = ℕ} 0 1 = cc in absurd (omega arith)
      go (InStep t c rest) q h e' = found t c rest q h e'

  pub recorded : is_unplaced r ≡ false → Recorded v S r
  recorded =
      last_step (Recorded v S r)
      (λ t c rest q h e'.
      let best = best_of v c rest in
      let step : best.step ≡ t = (of_candidates v t best (subst (In best) (sym h.2) (best_in v c rest))).of_step in
      record {
        below = rw e' (omega (arith, h.1));
        all = rw (q, e', step) (sym h.2);
        count = rw (e', q);
      })

  pub recorded_first : v.wish ≡ NoWish → is_unplaced r ≡ false → RecordedFirst v S r
  recorded_first none =
      last_step (RecordedFirst v S r)
      (λ t c rest q h e'.
      let b = best_first v none c rest in
      record { candidate = c; first = rw q; polygon_is = rw (e', b); x_is = rw (e', b); y_is = rw (e', b) })
