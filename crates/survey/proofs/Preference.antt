-- A seat's preference is a strict order where every distance from its wish is a number, and the scan of a list of candidates in their order
-- ends with the one that is preferred to every other.
use Prim.Native.Nat.{ℕ, ◌*◌, ◌<◌}
use mathlib.Core.Path.{◌≡◌, refl, sym, ◌∙◌, subst}
use mathlib.Core.Logic.{◌⊎◌, inl, inr, ⊎_elim}
use mathlib.Core.List.{List, [], ◌∷◌}
use mathlib.Core.Bool.{Bool, true, false, not, cond}
use native.Mathlib.Omega.{arith}
use lib.Arith.{le→nltb}
use lib.Dec.{T, T_not, not_T, ltb, ltb→lt, nltb→le}
use lib.Ieee.{Float, nan, inf, fin, binary32, sub, lt, is_nan, of_bits, up, down}
use lib.Ieee.Fits.{down_pos}
use lib.Ieee.Positive.{through}
use Rattle.geometry.specs.declared.Height.{Height}
use Rattle.geometry.specs.declared.Height.TheVariants.{Known, None}
use Rattle.geometry.specs.Plane.{abs_of}
use Rattle.geometry.proofs.Magnitude.{magnitude, abs_below, abs_above}
use Rattle.hits.specs.declared.Candidate.{Candidate}
use Rattle.survey.specs.declared.Wish.{Wish}
use Rattle.survey.specs.declared.Wish.TheVariants.{NoWish, Wished}
use Rattle.survey.specs.Wishes.{gap_of, nearer}
use Rattle.survey.specs.View.{View}
use Rattle.survey.specs.Search.{better, best_of}
use Rattle.survey.specs.Survey.{IsCandidate, Earlier, Nearer, Prefers}
use Rattle.words.proofs.Collecting.{In, Rising, holds}

-- the distance from a wish to a height is a number
abbrev pub MeasuredFrom : Wish → Height → Type 0
MeasuredFrom NoWish h = Unit {0}
MeasuredFrom (Wished w) None = Unit {0}
MeasuredFrom (Wished w) (Known h) = T (not (is_nan (gap_of h w)))

abbrev pub MeasuredHeight : View → Candidate → Type 0
MeasuredHeight v c = MeasuredFrom v.wish (v.shown.height c)

-- of every candidate of a step below S
abbrev pub MeasuredBelow : View → ℕ → Type 0
MeasuredBelow v S = (s : ℕ) → s < S → (c : Candidate) → IsCandidate v s c → MeasuredHeight v c

-- ---- the order of magnitudes
asym : (a b : ℕ) → T (ltb a b) → T (ltb b a) → ⊥
asym a b p q = omega (arith, ltb→lt a b p, ltb→lt b a q)

magnitude_asym : (x y : Float) → T (lt (magnitude x) (magnitude y)) → T (lt (magnitude y) (magnitude x)) → ⊥
unfolding lt
magnitude_asym nan y p q = p
magnitude_asym (inf s) nan p q = p
magnitude_asym (inf s) (inf t) p q = p
magnitude_asym (inf s) (fin t n d) p q = p
magnitude_asym (fin s m e) nan p q = p
magnitude_asym (fin s m e) (inf t) p q = q
magnitude_asym (fin s m e) (fin t n d) p q = asym (m * up e * down d) (n * up d * down e) p q

-- not below, and not below: not below, if the one in the middle is a number
magnitude_weak : (x y z : Float) → T (not (is_nan (abs_of y))) → T (not (lt (magnitude x) (magnitude y))) → T (not (lt (magnitude y) (magnitude z)))
    → T (not (lt (magnitude x) (magnitude z)))
unfolding lt is_nan of_bits
magnitude_weak nan y z h p q = tt
magnitude_weak (inf s) y nan h p q = tt
magnitude_weak (inf s) y (inf t) h p q = tt
magnitude_weak (inf s) y (fin t n d) h p q = tt
magnitude_weak (fin s m e) y nan h p q = tt
magnitude_weak (fin s m e) nan (inf t) h p q = absurd h
magnitude_weak (fin s m e) (inf u) (inf t) h p q = absurd p
magnitude_weak (fin s m e) (fin u n d) (inf t) h p q = absurd q
magnitude_weak (fin s m e) nan (fin t l g) h p q = absurd h
magnitude_weak (fin s m e) (inf u) (fin t l g) h p q = absurd p
magnitude_weak (fin s m e) (fin u n d) (fin t l g) h p q =
    le→nltb _ _ (through (l * up g) (n * up d) (m * up e) (down g) (down d) (down e) (down_pos d) (nltb→le _ _ q) (nltb→le _ _ p))

-- gaps compare as magnitudes do
gaps : (x y : Float) → lt (abs_of x) (abs_of y) ≡ lt (magnitude x) (magnitude y)
gaps x y = abs_below x (abs_of y) ∙ abs_above y (magnitude x)

-- ---- the order of heights, for a wish
nearer_asym : (w : Wish) (a b : Height) → T (nearer w a b) → T (nearer w b a) → ⊥
unfolding nearer
nearer_asym NoWish a b p q = p
nearer_asym (Wished w) None b p q = p
nearer_asym (Wished w) (Known a) None p q = q
nearer_asym (Wished w) (Known a) (Known b) p q =
    let x = sub binary32 a w in
    let y = sub binary32 b w in
    magnitude_asym x y (subst T (gaps x y) p) (subst T (gaps y x) q)

nearer_weak : (w : Wish) (a b c : Height) → MeasuredFrom w b → T (not (nearer w a b)) → T (not (nearer w b c)) → T (not (nearer w a c))
unfolding nearer
nearer_weak NoWish a b c h p q = tt
nearer_weak (Wished w) None b c h p q = tt
nearer_weak (Wished w) (Known a) None None h p q = p
nearer_weak (Wished w) (Known a) (Known b) None h p q = q
nearer_weak (Wished w) (Known a) None (Known c) h p q = absurd p
nearer_weak (Wished w) (Known a) (Known b) (Known c) h p q =
    let x = sub binary32 a w in
    let y = sub binary32 b w in
    let z = sub binary32 c w in
    subst T-not-of (sym (gaps x z)) (magnitude_weak x y z h (subst T-not-of (gaps x y) p) (subst T-not-of (gaps y z) q))
  where
    T-not-of : Bool → Type 0
    T-not-of t = T (not t)

module _ (v : View) where
  earlier_trans : (a b c : Candidate) → Earlier v a b → Earlier v b c → Earlier v a c
  earlier_trans a b c (inl p) (inl q) = inl (omega arith)
  earlier_trans a b c (inl p) (inr q) = inl (omega arith)
  earlier_trans a b c (inr p) (inl q) = inl (omega arith)
  earlier_trans a b c (inr p) (inr q) = inr (omega arith, omega arith)

  -- ---- the seat's preference
  weak : (a b c : Candidate) → MeasuredHeight v b → T (not (Nearer v a b)) → T (not (Nearer v b c)) → T (not (Nearer v a c))
  weak a b c = nearer_weak v.wish (v.shown.height a) (v.shown.height b) (v.shown.height c)

  -- what is preferred is not farther
  not_farther : (a b : Candidate) → Prefers v a b → T (not (Nearer v b a))
  not_farther a b (inl p) = not_T (Nearer v b a) (nearer_asym v.wish (v.shown.height a) (v.shown.height b) p)
  not_farther a b (inr p) = p.0

  prefers_trans : (a b c : Candidate) → MeasuredHeight v a → MeasuredHeight v b → MeasuredHeight v c → Prefers v a b → Prefers v b c → Prefers v a c
  prefers_trans a b c ma mb mc p q = go (Nearer v a c) refl
    where
      earlier : (x y : Candidate) → T (not (Nearer v x y)) → Prefers v x y → Earlier v x y
      earlier x y n (inl t) = absurd (T_not (Nearer v x y) n t)
      earlier x y n (inr e) = e.1

      go : (t : Bool) → Nearer v a c ≡ t → Prefers v a c
      go true e = inl (holds (Nearer v a c) e)
      go false e =
          let n : T (not (Nearer v a c)) = subst (λ (t : Bool). T (not t)) (sym e) tt in
          let ba = not_farther a b p in
          let cb = not_farther b c q in
          inr (weak c b a mb cb ba, earlier_trans a b c (earlier a b (weak a c b mc n cb) p) (earlier b c (weak b a c ma ba n) q))

  -- no two are preferred to each other
  pub prefers_asym : (a b : Candidate) → MeasuredHeight v a → MeasuredHeight v b → Prefers v a b → Prefers v b a → ⊥
  prefers_asym a b ma mb p q = go (prefers_trans a b a ma mb ma p q)
    where
      go : Prefers v a a → ⊥
      go (inl t) = nearer_asym v.wish (v.shown.height a) (v.shown.height a) t t
      go (inr r) = ⊎_elim (λ l. omega arith) (λ l. omega arith) r.1

  -- ---- the scan
  abbrev pub IsBest : Candidate → List Candidate → Candidate → Type 0
  IsBest c l b = In b (c ∷ l) × ((x : Candidate) → In x (c ∷ l) → (x ≡ b) ⊎ Prefers v b x)

  -- the best is preferred also to what one of the list is preferred to
  beats : (b w x y : Candidate) → MeasuredHeight v b → MeasuredHeight v w → MeasuredHeight v x → (w ≡ b) ⊎ Prefers v b w → Prefers v w x → y ≡ x → Prefers v b y
  beats b w x y mb mw mx (inl e) p q = subst (λ (z : Candidate). Prefers v z y) e (subst (Prefers v w) (sym q) p)
  beats b w x y mb mw mx (inr r) p q = subst (Prefers v b) (sym q) (prefers_trans b w x mb mw mx r p)

  pub best_is : (c : Candidate) (l : List Candidate) → ((x : Candidate) → In x (c ∷ l) → MeasuredHeight v x) → Rising (Earlier v) (c ∷ l) → IsBest c l (best_of v c l)
  unfolding best_of
  best_is c [] measured r = (inl refl, λ x h. ⊎_elim (λ e. inl e) (λ n. absurd n) h)
  best_is c (d ∷ rest) measured r =
      go (better v d c) refl
      (best_is d rest (λ x k. measured x (inr k)) r.1)
      (best_is c rest (λ x. ⊎_elim (λ e. measured x (inl e)) (λ k. measured x (inr (inr k)))) (λ y k. r.0 y (inr k), r.1.1))
    where
      mc : MeasuredHeight v c
      mc = measured c (inl refl)

      md : MeasuredHeight v d
      md = measured d (inr (inl refl))

      go : (t : Bool) → better v d c ≡ t → IsBest d rest (best_of v d rest) → IsBest c rest (best_of v c rest) → IsBest c (d ∷ rest) (best_of v (cond t d c) rest)
      go true e h k = (
        inr h.0,
        λ x. ⊎_elim (λ q. inr (beats (best_of v d rest) d c x (measured (best_of v d rest) (inr h.0)) md mc (h.1 d (inl refl)) (inl (holds (better v d c) e)) q)) (h.1 x),
      )
      go false e h k =
          let kept : Prefers v c d = inr (subst (λ (t : Bool). T (not t)) (sym e) tt, r.0 d (inl refl)) in
          let there : In (best_of v c rest) (c ∷ d ∷ rest) = ⊎_elim (λ q. inl q) (λ m. inr (inr m)) k.0 in (
            there,
            λ x. ⊎_elim (λ q. k.1 x (inl q))
                (⊎_elim (λ q. inr (beats (best_of v c rest) c d x (measured (best_of v c rest) there) mc md (k.1 c (inl refl)) kept q)) (λ m. k.1 x (inr m))),
          )
