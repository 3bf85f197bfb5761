-- The steps of a seat's search: what a deck's turn finds, what the candidates of a step are and in which order, which step is the first with any,
-- and how many samples are tried.
use Prim.Native.Nat.{ℕ, zero, suc, ◌+◌, ◌*◌, ◌-◌, ◌≤◌, ◌<◌}
use mathlib.Core.Path.{◌≡◌, refl, sym, ap, ◌∙◌, subst}
use mathlib.Core.Logic.{◌⊎◌, inl, inr, ⊎_elim}
use mathlib.Core.List.{List, [], ◌∷◌}
use mathlib.Core.Bool.{Bool, true, false, cond}
use native.Mathlib.Omega.{arith}
use native.Mathlib.Nat.{mul-add, mul-le-mul_left, mul-zero}
use lib.Dec.{T}
use lib.ListN.{length}
use Rattle.std.specs.Prelude.{Option, Some, None}
use Rattle.hits.specs.declared.Candidate.{Candidate}
use Rattle.hits.specs.declared.Hit.{Hit}
use Rattle.hits.specs.Candidates.{hit, candidate}
use Rattle.survey.specs.View.{View}
use Rattle.hits.specs.Hits.{or_else, polygon_hit, sample_hit, tried_of}
use Rattle.survey.specs.Search.{passes_on, turn, passing, given, turn_gives, turn_tried, candidates, tried_in, tried_before, Found, Nowhere, InStep, step_or, first_step, record_of, seat_record}
use Rattle.words.specs.Bytes.{all_ones}
use Rattle.survey.specs.Survey.{Open, Passes, NoHitOn, FirstHit, IsCandidate, Earlier, open_decks, over_open, samples_below, TriedOn, CandidatesOn}
use Rattle.words.proofs.Collecting.{three, from_next, holds, not_holds, In, Rising, of_collect, in_collect, collect_rises, length_collect, sum_same, sum_equal}

-- ---- the first polygon that passes, and the first sample that hits
module _ (passes : ℕ → ℕ → Bool) where
  abbrev PolygonIs : ℕ → ℕ → ℕ → Option Hit → Type 0
  PolygonIs i k n None = (j : ℕ) → k ≤ j → j < k + n → T (passes i j) → ⊥
  PolygonIs i k n (Some h) =
      (h.sample ≡ i) × (k ≤ h.polygon) × (h.polygon < k + n) × T (passes i h.polygon) × ((j : ℕ) → k ≤ j → j < h.polygon → T (passes i j) → ⊥)

  polygon_is : (i k n : ℕ) → PolygonIs i k n (polygon_hit passes i k n)
  unfolding polygon_hit
  polygon_is i k zero = λ j l m. absurd (omega arith)
  polygon_is i k (suc n) = go (passes i k) refl (polygon_hit passes i (k + 1) n) (polygon_is i (k + 1) n)
    where
      next : passes i k ≡ false → (j : ℕ) → k ≤ j → (k + 1 ≤ j → T (passes i j) → ⊥) → T (passes i j) → ⊥
      next e j = from_next (λ j'. T (passes i j') → ⊥) k j (not_holds (passes i k) e)

      go : (b : Bool) → passes i k ≡ b → (r : Option Hit) → PolygonIs i (k + 1) n r → PolygonIs i k (suc n) (cond b (Some (hit i k)) r)
      go true e r h = (refl, omega arith, omega arith, holds (passes i k) e, λ j l m. absurd (omega arith))
      go false e None h = λ j l m. next e j l (λ q. h j q (omega arith))
      go false e (Some u) h = (h.0, omega (arith, h.1), omega (arith, h.2), h.3, λ j m o. next e j m (λ q. h.4 j q o))

  -- no polygon below m passes at sample i
  abbrev NoneAt : ℕ → ℕ → Type 0
  NoneAt m i = (k : ℕ) → k < m → T (passes i k) → ⊥

  abbrev SampleIs : ℕ → ℕ → ℕ → Option Hit → Type 0
  SampleIs m i n None = (j : ℕ) → i ≤ j → j < i + n → NoneAt m j
  SampleIs m i n (Some h) =
      (i ≤ h.sample) × (h.sample < i + n) × (h.polygon < m) × T (passes h.sample h.polygon)
      × ((j : ℕ) → j < h.polygon → T (passes h.sample j) → ⊥) × ((j : ℕ) → i ≤ j → j < h.sample → NoneAt m j)

  sample_is : (m i n : ℕ) → SampleIs m i n (sample_hit passes m i n)
  unfolding sample_hit
  sample_is m i zero = λ j l o. absurd (omega arith)
  sample_is m i (suc n) = go (polygon_hit passes i 0 m) (polygon_is i 0 m) (sample_hit passes m (i + 1) n) (sample_is m (i + 1) n)
    where
      next : PolygonIs i 0 m None → (j : ℕ) → i ≤ j → (i + 1 ≤ j → NoneAt m j) → NoneAt m j
      next h j = from_next (NoneAt m) i j (λ k l. h k (omega arith) (omega arith))

      go : (r : Option Hit) → PolygonIs i 0 m r → (later : Option Hit) → SampleIs m (i + 1) n later → SampleIs m i (suc n) (or_else r later)
      go (Some u) h later g =
          subst (λ (i' : ℕ). SampleIs m i (suc n) (Some (hit i' u.polygon))) (sym h.0)
          (omega arith, omega arith, omega (arith, h.2), h.3, λ j l. h.4 j (omega arith) l, λ j l o. absurd (omega arith))
      go None h None g = λ j l o. next h j l (λ q. g j q (omega arith))
      go None h (Some u) g = (omega (arith, g.0), omega (arith, g.1), g.2, g.3, g.4, λ j l o. next h j l (λ q. g.5 j q o))

-- ---- 5 s s - 4 s
at_most_square : (s : ℕ) → s ≤ s * s
at_most_square zero = omega arith
at_most_square (suc s) = omega (arith, mul-le-mul_left {m = 1} {n = suc s} (suc s) (omega arith))

pub ring_next : (s : ℕ) → 5 * suc s * suc s - 4 * suc s ≡ (5 * s * s - 4 * s) + (10 * s + 1)
ring_next s = omega (arith, at_most_square s)

module _ (v : View) where
  -- ---- a deck's turn
  -- its first sample that hits, and the first polygon that passes there
  pub record HitIs (s d i k : ℕ) : Type 0 where
    pub first_hit : FirstHit v s d i
    pub passes : Passes v (candidate s d i k)
    pub none_before : (j : ℕ) → j < k → T (passes_on v.shown s d i j) → ⊥

  abbrev pub TurnIs : ℕ → ℕ → Option Hit → Type 0
  TurnIs s d None = NoHitOn v s d
  TurnIs s d (Some h) = HitIs s d h.sample h.polygon

  pub turn_is : (s d : ℕ) → TurnIs s d (turn v.shown s d)
  unfolding turn
  turn_is s d = go (turn v.shown s d) (sample_is (passes_on v.shown s d) (v.shown.polygons d) 0 (10 * s + 1))
    where
      go : (t : Option Hit) → SampleIs (passes_on v.shown s d) (v.shown.polygons d) 0 (10 * s + 1) t → TurnIs s d t
      go None h = λ i l k q. h i (omega arith) (omega arith) k q.0 q.1
      go (Some f) h =
          record {
            first_hit =
                record {
                  in_ring = omega (arith, h.1);
                  hits = (f.polygon, (h.2, h.3));
                  none_before = λ j l k' q. h.5 j (omega arith) l k' q.0 q.1;
                };
            passes = (h.2, h.3);
            none_before = h.4;
          }

  pub same_hit : (s d i j : ℕ) → FirstHit v s d i → FirstHit v s d j → i ≡ j
  same_hit s d i j f g =
      ⊎_elim (λ q. absurd (g.none_before i q f.hits.0 f.hits.1))
      (⊎_elim (λ q. q) (λ q. absurd (f.none_before j q g.hits.0 g.hits.1)))
      (three i j)

  -- ---- what a turn gives
  abbrev alone : ℕ → ℕ → ℕ → ℕ → List Candidate
  alone s d i k = candidate s d i k ∷ []

  of_given : (s d : ℕ) (t : Option Hit) (c : Candidate) → TurnIs s d t → In c (given v.shown s d t) → (c.deck ≡ d) × (Open v d → IsCandidate v s c)
  of_given s d None c h m = absurd m
  of_given s d (Some f) c h m =
      go (of_collect (passes_on v.shown s d i) (alone s d i) 0 (v.shown.polygons d) c m)
    where
      i : ℕ
      i = f.sample

      go : (j : ℕ) × (0 ≤ j) × (j < 0 + v.shown.polygons d) × T (passes_on v.shown s d i j) × In c (alone s d i j)
          → (c.deck ≡ d) × (Open v d → IsCandidate v s c)
      go (j, l, m', t, inl e) =
          subst (λ (x : Candidate). (x.deck ≡ d) × (Open v d → IsCandidate v s x)) (sym e)
          (refl, λ o. record { of_step = refl; on_open = o; first_hit = h.first_hit; passes = (omega arith, t) })
      go (j, l, m', t, inr n) = absurd n

  in_given : (s d i k : ℕ) (t : Option Hit) → TurnIs s d t → FirstHit v s d i → Passes v (candidate s d i k) → In (candidate s d i k) (given v.shown s d t)
  in_given s d i k None h f p = absurd (h i f.in_ring k p)
  in_given s d i k (Some g) h f p =
      subst (λ (j : ℕ). In (candidate s d i k) (passing v.shown s d j 0 (v.shown.polygons d))) (same_hit s d i g.sample f h.first_hit)
      (in_collect (passes_on v.shown s d i) (alone s d i) 0 (v.shown.polygons d) k (candidate s d i k) (omega arith) (omega (arith, p.0)) p.1 (inl refl))

  given_rises : (s d : ℕ) (t : Option Hit) → Rising (Earlier v) (given v.shown s d t)
  given_rises s d None = tt
  given_rises s d (Some h) =
      collect_rises (passes_on v.shown s d i) (alone s d i) (Earlier v) (λ j. (λ y n. absurd n, tt)) apart 0 (v.shown.polygons d)
    where
      i : ℕ
      i = h.sample

      apart : (j k : ℕ) (x y : Candidate) → j < k → In x (alone s d i j) → In y (alone s d i k) → Earlier v x y
      apart j k x y l (inl e) (inl f) = inr (ap (λ (c : Candidate). c.deck) e ∙ sym (ap (λ (c : Candidate). c.deck) f), omega (arith, ap (λ (c : Candidate). c.polygon) e, ap (λ (c : Candidate). c.polygon) f))
      apart j k x y l (inl e) (inr n) = absurd n
      apart j k x y l (inr n) m = absurd n

  pub tried_is : (s d : ℕ) → TriedOn v s d (tried_of s (turn v.shown s d))
  tried_is s d = go (turn v.shown s d) (turn_is s d)
    where
      go : (t : Option Hit) → TurnIs s d t → TriedOn v s d (tried_of s t)
      go None h = inl (h, omega arith)
      go (Some f) h = inr (f.sample, h.first_hit, omega arith)

  pub count_is : (s d : ℕ) → CandidatesOn v s d (length (given v.shown s d (turn v.shown s d)))
  count_is s d = go (turn v.shown s d) (turn_is s d)
    where
      go : (t : Option Hit) → TurnIs s d t → CandidatesOn v s d (length (given v.shown s d t))
      go None h = inl (h, refl)
      go (Some f) h =
          inr (f.sample, h.first_hit, length_collect (passes_on v.shown s d f.sample) (alone s d f.sample) 0 (v.shown.polygons d))

  -- ---- the candidates of a step
  pub of_candidates : (s : ℕ) (c : Candidate) → In c (candidates v s) → IsCandidate v s c
  of_candidates s c h =
      let r = of_collect v.opens (turn_gives v.shown s) 0 v.decks c h in
      (of_given s r.0 (turn v.shown s r.0) c (turn_is s r.0) r.4).1 (omega (arith, r.2), r.3)

  pub in_candidates : (s : ℕ) (c : Candidate) → IsCandidate v s c → In c (candidates v s)
  in_candidates s c h =
      in_collect v.opens (turn_gives v.shown s) 0 v.decks c.deck c (omega arith) (omega (arith, h.on_open.0)) h.on_open.1
      (subst (λ (t : ℕ). In (candidate t c.deck c.sample c.polygon) (turn_gives v.shown s c.deck)) (sym h.of_step)
      (in_given s c.deck c.sample c.polygon (turn v.shown s c.deck) (turn_is s c.deck) h.first_hit
      (subst (λ (t : ℕ). Passes v (candidate t c.deck c.sample c.polygon)) h.of_step h.passes)))

  pub candidates_rise : (s : ℕ) → Rising (Earlier v) (candidates v s)
  candidates_rise s =
      collect_rises v.opens (turn_gives v.shown s) (Earlier v) (λ d. given_rises s d (turn v.shown s d)) apart 0 v.decks
    where
      apart : (j k : ℕ) (x y : Candidate) → j < k → In x (turn_gives v.shown s j) → In y (turn_gives v.shown s k) → Earlier v x y
      apart j k x y l m n =
          inl (omega (arith, (of_given s j (turn v.shown s j) x (turn_is s j) m).0, (of_given s k (turn v.shown s k) y (turn_is s k) n).0))

  pub how_many : (s : ℕ) → length (candidates v s) ≡ over_open v (λ d. length (turn_gives v.shown s d))
  how_many s =
      length_collect v.opens (turn_gives v.shown s) 0 v.decks

  -- no candidate, no hit
  pub no_hit : (s : ℕ) → candidates v s ≡ [] → (d : ℕ) → Open v d → NoHitOn v s d
  no_hit s e d o = go (turn v.shown s d) (turn_is s d)
    where
      go : (t : Option Hit) → TurnIs s d t → NoHitOn v s d
      go None h = h
      go (Some f) h =
          let c = candidate s d f.sample f.polygon in
          absurd
          (subst (In c) e
          (in_candidates s c (record { of_step = refl; on_open = o; first_hit = h.first_hit; passes = h.passes })))

  -- no hit, no candidate
  pub no_candidate : (s : ℕ) (c : Candidate) → ((d : ℕ) → Open v d → NoHitOn v s d) → IsCandidate v s c → ⊥
  no_candidate s c none h =
      let f = h.first_hit in
      none c.deck h.on_open c.sample f.in_ring f.hits.0 f.hits.1

  -- ---- the samples tried
  -- all, in a step with no hit
  all_tried : (s : ℕ) → candidates v s ≡ [] → tried_in v s ≡ open_decks v * (10 * s + 1)
  all_tried s e =
      sum_same v.opens (turn_tried v.shown s) (λ d. 10 * s + 1) v.decks (λ d l o. go d (turn v.shown s d) (turn_is s d) (no_hit s e d (l, o)))
      ∙ sum_equal v.opens (10 * s + 1) v.decks
    where
      go : (d : ℕ) (t : Option Hit) → TurnIs s d t → NoHitOn v s d → tried_of s t ≡ 10 * s + 1
      go d None h none = refl
      go d (Some f) h none = absurd (none f.sample h.first_hit.in_ring f.polygon h.passes)

  pub tried_before_is : (s : ℕ) → ((t : ℕ) → t < s → candidates v t ≡ []) → tried_before v s ≡ samples_below v s
  unfolding tried_before
  tried_before_is zero e = sym (mul-zero (open_decks v))
  tried_before_is (suc s) e =
      ap (λ (n : ℕ). n + tried_in v s) (tried_before_is s (λ t l. e t (omega arith)))
      ∙ ap (λ (n : ℕ). samples_below v s + n) (all_tried s (e s (omega arith)))
      ∙ sym (mul-add (open_decks v) (5 * s * s - 4 * s) (10 * s + 1))
      ∙ ap (λ (n : ℕ). open_decks v * n) (sym (ring_next s))

  -- ---- the first step with a candidate
  abbrev pub StepIs : ℕ → ℕ → Found → Type 0
  StepIs s n Nowhere = (t : ℕ) → s ≤ t → t < s + n → candidates v t ≡ []
  StepIs s n (InStep t c rest) = (s ≤ t) × (t < s + n) × (candidates v t ≡ c ∷ rest) × ((u : ℕ) → s ≤ u → u < t → candidates v u ≡ [])

  pub first_step_is : (s n : ℕ) → StepIs s n (first_step v s n)
  unfolding first_step
  first_step_is s zero = λ t l h. absurd (omega arith)
  first_step_is s (suc n) = go (candidates v s) refl (first_step v (s + 1) n) (first_step_is (s + 1) n)
    where
      next : candidates v s ≡ [] → (t : ℕ) → s ≤ t → (s + 1 ≤ t → candidates v t ≡ []) → candidates v t ≡ []
      next e t = from_next (λ u. candidates v u ≡ []) s t e

      go : (l : List Candidate) → candidates v s ≡ l → (r : Found) → StepIs (s + 1) n r → StepIs s (suc n) (step_or l s r)
      go (c ∷ rest) e r h = (omega arith, omega arith, e, λ u l k. absurd (omega arith))
      go [] e Nowhere h = λ t l k. next e t l (λ q. h t q (omega arith))
      go [] e (InStep t c rest) h = (omega (arith, h.0), omega (arith, h.1), h.2, λ u l k. next e u l (λ q. h.3 u q k))

  -- more steps find the same, if fewer find anything
  more_steps : (s n m : ℕ) → n ≤ m → (first_step v s n ≡ Nowhere) ⊎ (first_step v s m ≡ first_step v s n)
  unfolding first_step
  more_steps s zero m l = inl refl
  more_steps s (suc n) zero l = absurd (omega arith)
  more_steps s (suc n) (suc m) l = go (candidates v s) (more_steps (s + 1) n m (omega arith))
    where
      go : (l : List Candidate) → (first_step v (s + 1) n ≡ Nowhere) ⊎ (first_step v (s + 1) m ≡ first_step v (s + 1) n)
          → (step_or l s (first_step v (s + 1) n) ≡ Nowhere) ⊎ (step_or l s (first_step v (s + 1) m) ≡ step_or l s (first_step v (s + 1) n))
      go [] h = h
      go (c ∷ rest) h = inr refl

  pub steady : (S S' : ℕ) → S ≤ S' → ((seat_record v S).polygon ≡ all_ones → ⊥) → seat_record v S' ≡ seat_record v S
  unfolding seat_record
  steady S S' l placed =
      ⊎_elim (λ e. absurd (placed (ap (λ (f : Found). (record_of v S f).polygon) e)))
      (λ e. ap (record_of v S') e ∙ same (first_step v 0 S) placed)
      (more_steps 0 S S' l)
    where
      same : (f : Found) → ((record_of v S f).polygon ≡ all_ones → ⊥) → record_of v S' f ≡ record_of v S f
      same Nowhere h = absurd (h refl)
      same (InStep t c rest) h = refl
