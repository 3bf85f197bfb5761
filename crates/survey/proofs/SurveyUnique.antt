-- The surveyor's statement leaves nothing free: two records of a seat that meet it are the same.
use Prim.Native.Nat.{ℕ, suc, ◌+◌, ◌*◌}
use mathlib.Core.Path.{◌≡◌, sym, ap, ap₂, ◌∙◌, subst}
use mathlib.Core.Logic.{◌⊎◌, inl, inr, ⊎_elim}
use native.Mathlib.Decide.{ℕ_discrete}
use Rattle.hits.specs.declared.Candidate.{Candidate}
use Rattle.hits.specs.Candidates.{candidate}
use Rattle.survey.specs.View.{View}
use Rattle.words.specs.Bytes.{all_ones}
use Rattle.words.specs.Rows.{how_many}
use Rattle.records.specs.declared.SeatRecord.{SeatRecord}
use Rattle.survey.specs.Record.{placed_record}
use Rattle.survey.specs.Survey.{Open, NoHitOn, FirstHit, IsCandidate, Prefers, over_open, samples_below, TriedOn, CandidatesOn, Placed, SeatSurvey}
use Rattle.words.proofs.Collecting.{three, sum_same}
use Rattle.survey.proofs.Preference.{MeasuredHeight, MeasuredBelow, prefers_asym}
use Rattle.survey.proofs.Steps.{same_hit, no_candidate}

module _ (v : View) where
  -- a turn either has no hit or one first hit, so what is said of it in either case is said once
  module _ (s d : ℕ) (none : ℕ) (of : ℕ → ℕ) where
    abbrev Said : ℕ → Type 0
    Said n = (NoHitOn v s d × (n ≡ none)) ⊎ ((i : ℕ) × FirstHit v s d i × (n ≡ of i))

    said_once : (m n : ℕ) → Said m → Said n → m ≡ n
    said_once m n (inl p) (inl q) = p.1 ∙ sym q.1
    said_once m n (inl p) (inr q) = absurd (p.0 q.0 q.1.in_ring q.1.hits.0 q.1.hits.1)
    said_once m n (inr p) (inl q) = absurd (q.0 p.0 p.1.in_ring p.1.hits.0 p.1.hits.1)
    said_once m n (inr p) (inr q) = p.2 ∙ ap of (same_hit v s d p.0 q.0 p.1 q.1) ∙ sym q.2

  over_same : (f g : ℕ → ℕ) → ((d : ℕ) → Open v d → f d ≡ g d) → over_open v f ≡ over_open v g
  over_same f g h = sum_same v.opens f g v.decks (λ d l o. h d (l, o))

  module _ (S : ℕ) (measured : MeasuredBelow v S) (r r' : SeatRecord) where
    same_step : (p : Placed v S r) (q : Placed v S r') → p.chosen.step ≡ q.chosen.step
    same_step p q =
        ⊎_elim (λ l. absurd (no_candidate v p.chosen.step p.chosen (q.earliest p.chosen.step l) p.is_candidate))
        (⊎_elim (λ e. e) (λ l. absurd (no_candidate v q.chosen.step q.chosen (p.earliest q.chosen.step l) q.is_candidate)))
        (three p.chosen.step q.chosen.step)

    same_best : (a b : Candidate) → MeasuredHeight v a → MeasuredHeight v b → (b ≡ a) ⊎ Prefers v a b → (a ≡ b) ⊎ Prefers v b a → a ≡ b
    same_best a b ma mb (inl e) k = sym e
    same_best a b ma mb (inr p) (inl e) = e
    same_best a b ma mb (inr p) (inr q) = absurd (prefers_asym v a b ma mb p q)

    same_placed : Placed v S r → Placed v S r' → r ≡ r'
    same_placed p q =
        p.numbers
        ∙ ap₂ (λ (n m : ℕ). placed_record v.shown p.chosen (samples_below v s + n) m)
        (over_same p.tried q.tried (λ d o. said_once s d (suc (10 * s)) suc (p.tried d) (q.tried d) (p.tried_is d o) (subst (λ (u : ℕ). TriedOn v u d (q.tried d)) (sym e) (q.tried_is d o))))
        (over_same p.count q.count (λ d o. said_once s d 0 (given d) (p.count d) (q.count d) (p.count_is d o) (subst (λ (u : ℕ). CandidatesOn v u d (q.count d)) (sym e) (q.count_is d o))))
        ∙ ap (λ (c : Candidate). placed_record v.shown c (samples_below v c.step + over_open v q.tried) (over_open v q.count))
        (same_best p.chosen q.chosen
        (measured p.chosen.step p.below p.chosen p.is_candidate)
        (measured q.chosen.step q.below q.chosen q.is_candidate)
        (p.preferred q.chosen (subst (λ (u : ℕ). IsCandidate v u q.chosen) (sym e) q.is_candidate))
        (q.preferred p.chosen (subst (λ (u : ℕ). IsCandidate v u p.chosen) e p.is_candidate)))
        ∙ sym q.numbers
      where
        s : ℕ
        s = p.chosen.step

        e : p.chosen.step ≡ q.chosen.step
        e = same_step p q

        given : ℕ → ℕ → ℕ
        given d i = how_many (λ k. v.shown.passes (candidate p.chosen.step d i k)) (v.shown.polygons d)

    pub survey_unique : SeatSurvey v S r → SeatSurvey v S r' → r ≡ r'
    survey_unique p q = go (ℕ_discrete r.polygon all_ones)
      where
        go : Dec (r.polygon ≡ all_ones) → r ≡ r'
        go (yes e) = p.unplaced_numbers e ∙ sym (q.unplaced_numbers (q.unplaced.1 (p.unplaced.0 e)))
        go (no n) = same_placed (p.placed n) (q.placed (λ e. n (p.unplaced.1 (q.unplaced.0 e))))
