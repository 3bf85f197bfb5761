-- The numbers of a step, by what their candidates are: each is of a polygon that is there, and they rise.
use Prim.Native.Nat.{ℕ, zero, suc, ◌^◌, ◌<◌}
use native.Mathlib.Omega.{arith}
use mathlib.Core.Path.{◌≡◌, refl, subst}
use mathlib.Core.Logic.{inl, inr, ⊎_elim}
use mathlib.Core.List.{List, [], ◌∷◌}
use lib.Dec.{T}
use lib.ListN.{length, get_or, length-map, get_or-map}
use Rattle.words.specs.Rows.{has}
use Rattle.words.proofs.Collecting.{In, Rising}
use Rattle.hits.specs.declared.Candidate.{Candidate}
use Rattle.ship.specs.Layout.{decks_in}
use Rattle.ship.specs.Questions.{first_no}
use Rattle.ship.proofs.ModelFacts.{decks_length}
use Rattle.ship.proofs.Packing.{packed_deck_lem, packed_polygon_lem}
use Rattle.survey.specs.declared.Seat.{Seat}
use Rattle.survey.specs.Search.{candidates}
use Rattle.survey.specs.Survey.{IsCandidate, Earlier}
use Rattle.survey.proofs.Steps.{of_candidates, candidates_rise}
use Rattle.touching.specs.Touching.{PolygonThere}
use Rattle.touching.proofs.Reaching.{has_which}
use Rattle.walking.specs.Sees.{seen_by}
use Rattle.walking.proofs.ShownLaws.{polygons_shown, polygons_few}
use Rattle.walking.proofs.Passing.{nowhere}
use Rattle.numbering.specs.Numbers.{packed_candidate, step_numbers}
use Rattle.std.specs.Prelude.{Ok}

-- ---- a list by its places
in_at : {A : Type 0} (l : List A) (d : A) (k : ℕ) → k < length l → In (get_or l k d) l
in_at [] d k h = absurd (omega arith)
in_at (x ∷ l) d zero h = inl refl
in_at (x ∷ l) d (suc k) h = inr (in_at l d k (omega arith))

rising_at : {A : Type 0} (R : A → A → Type 0) (l : List A) (d : A) (j k : ℕ) → Rising R l → j < k → k < length l → R (get_or l j d) (get_or l k d)
rising_at R [] d j k r h m = absurd (omega arith)
rising_at R (x ∷ l) d j zero r h m = absurd (omega arith)
rising_at R (x ∷ l) d zero (suc k) r h m = r.0 (get_or l k d) (in_at l d k (omega arith))
rising_at R (x ∷ l) d (suc j) (suc k) r h m = rising_at R l d j k r.1 (omega arith) (omega arith)

-- ---- number j of a step
module _ (file blocked : List ℕ) (seat : Seat) (s j : ℕ) (below : j < length (step_numbers file blocked seat s)) where
  abbrev pub candidate_at : Candidate
  candidate_at = get_or (candidates (seen_by file blocked seat) s) j nowhere

  below_candidates : j < length (candidates (seen_by file blocked seat) s)
  unfolding step_numbers
  below_candidates = omega (arith, below, length-map (candidates (seen_by file blocked seat) s) packed_candidate)

  pub number_is : get_or (step_numbers file blocked seat s) j 0 ≡ packed_candidate candidate_at
  unfolding step_numbers
  number_is = get_or-map packed_candidate (candidates (seen_by file blocked seat) s) j nowhere

  pub is_candidate : IsCandidate (seen_by file blocked seat) s candidate_at
  is_candidate = of_candidates (seen_by file blocked seat) s candidate_at (in_at (candidates (seen_by file blocked seat) s) nowhere j below_candidates)

  module _ (passed : first_no file ≡ Ok tt) where
    pub candidate_polygon : candidate_at.polygon < 2 ^ 24
    candidate_polygon = omega (arith, is_candidate.passes.0, polygons_few file passed seat.place candidate_at.deck)

    pub number_there : PolygonThere file (get_or (step_numbers file blocked seat s) j 0)
    number_there =
        let deck : candidate_at.deck < decks_in file = omega (arith, is_candidate.on_open.0, decks_length file) in
        let d = packed_deck_lem candidate_at.deck candidate_at.polygon candidate_polygon in
        let k = packed_polygon_lem candidate_at.deck candidate_at.polygon candidate_polygon in
        rw number_is
        (record {
          deck = rw d deck;
          polygon = rw (d, k) (omega (arith, is_candidate.passes.0, polygons_shown file candidate_at.deck seat.place));
        })

pub numbers_there : (file blocked : List ℕ) (seat : Seat) (s a : ℕ) → first_no file ≡ Ok tt → T (has (step_numbers file blocked seat s) a) → PolygonThere file a
numbers_there file blocked seat s a passed t =
    let r = has_which (step_numbers file blocked seat s) a t in
    subst (PolygonThere file) r.2 (number_there file blocked seat s r.0 r.1 passed)

pub numbers_rise : (file blocked : List ℕ) (seat : Seat) (s : ℕ) → first_no file ≡ Ok tt → (j k : ℕ) → j < k → k < length (step_numbers file blocked seat s)
    → get_or (step_numbers file blocked seat s) j 0 < get_or (step_numbers file blocked seat s) k 0
numbers_rise file blocked seat s passed j k h m =
    let v = seen_by file blocked seat in
    let l : j < length (step_numbers file blocked seat s) = omega arith in
    let p = candidate_polygon file blocked seat s j l passed in
    rw (number_is file blocked seat s j l, number_is file blocked seat s k m)
    (⊎_elim (λ e. omega arith) (λ e. omega (arith, e.0, e.1))
    (rising_at (Earlier v) (candidates v s) nowhere j k (candidates_rise v s) h (below_candidates file blocked seat s k m)))
