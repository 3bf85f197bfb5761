-- All that the search gives: what is in it, in which order, and that its first is the place of the statement, which leaves nothing free.
use Prim.Native.Nat.{ℕ, ◌<◌}
use mathlib.Core.Path.{◌≡◌, refl, sym, ap, ◌∙◌, subst}
use mathlib.Core.Logic.{◌⊎◌, inl, inr, ⊎_elim}
use mathlib.Core.Bool.{true}
use mathlib.Core.List.{List, [], ◌∷◌}
use native.Mathlib.Omega.{arith}
use lib.ListN.{length}
use Rattle.geometry.specs.declared.Vec2.{Vec2}
use Rattle.words.proofs.Collecting.{three, In, Rising, of_collect, in_collect, collect_rises}
use Rattle.answers.specs.Questions.{looks_at}
use Rattle.ship.specs.Model.{Ship, deck_of}
use Rattle.towards.specs.declared.Place.{Place}
use Rattle.towards.specs.Towards.{place_at, passes_towards, deck_gives, step_gives, all_given, place_bytes}
use Rattle.towards.specs.Statement.{Looked, Passes, NoHit, Snapped}

-- by step, then by deck, then by polygon
abbrev Before : Place → Place → Type 0
Before c e = (c.step < e.step) ⊎ ((c.step ≡ e.step) × ((c.deck < e.deck) ⊎ ((c.deck ≡ e.deck) × (c.polygon < e.polygon))))

module _ (ship : Ship) (p direction : Vec2) where
  -- ---- on a deck
  abbrev alone : ℕ → ℕ → ℕ → List Place
  alone s d k = place_at s d k ∷ []

  of_alone : (s d k : ℕ) (c : Place) → In c (alone s d k) → c ≡ place_at s d k
  of_alone s d k c (inl e) = e
  of_alone s d k c (inr n) = absurd n

  of_deck : (s d : ℕ) (c : Place) → In c (deck_gives ship p direction s d) → (c.step ≡ s) × (c.deck ≡ d) × Passes ship p direction s d c.polygon
  of_deck s d c h =
      let r = of_collect (passes_towards ship p direction s d) (alone s d) 0 (length (deck_of ship d).polygons) c h in
      let e = of_alone s d r.0 c r.4 in (
        ap (λ (x : Place). x.step) e,
        ap (λ (x : Place). x.deck) e,
        subst (Passes ship p direction s d) (sym (ap (λ (x : Place). x.polygon) e)) (omega (arith, r.2), r.3),
      )

  in_deck : (s d k : ℕ) → Passes ship p direction s d k → In (place_at s d k) (deck_gives ship p direction s d)
  in_deck s d k h =
      in_collect (passes_towards ship p direction s d) (alone s d) 0 (length (deck_of ship d).polygons) k (place_at s d k) (omega arith) (omega (arith, h.0)) h.1 (inl refl)

  deck_rises : (s d : ℕ) → Rising Before (deck_gives ship p direction s d)
  deck_rises s d =
      collect_rises (passes_towards ship p direction s d) (alone s d) Before (λ k. (λ y n. absurd n, tt)) apart 0 (length (deck_of ship d).polygons)
    where
      apart : (j k : ℕ) (x y : Place) → j < k → In x (alone s d j) → In y (alone s d k) → Before x y
      apart j k x y l m n =
          let e = of_alone s d j x m in
          let f = of_alone s d k y n in
          inr (
            omega (arith, ap (λ (c : Place). c.step) e, ap (λ (c : Place). c.step) f),
            inr (omega (arith, ap (λ (c : Place). c.deck) e, ap (λ (c : Place). c.deck) f), omega (arith, ap (λ (c : Place). c.polygon) e, ap (λ (c : Place). c.polygon) f)),
          )

  module _ (deck : ℕ) where
    -- ---- in a step
    of_step : (s : ℕ) (c : Place) → In c (step_gives ship p direction deck s)
        → (c.step ≡ s) × Looked ship deck c.deck × Passes ship p direction s c.deck c.polygon
    unfolding step_gives
    of_step s c h =
        let r = of_collect (looks_at deck) (deck_gives ship p direction s) 0 (length ship.decks) c h in
        let o = of_deck s r.0 c r.4 in (
          o.0,
          subst (Looked ship deck) (sym o.1) (omega (arith, r.2), r.3),
          subst (λ (d : ℕ). Passes ship p direction s d c.polygon) (sym o.1) o.2,
        )

    in_step : (s d k : ℕ) → Looked ship deck d → Passes ship p direction s d k → In (place_at s d k) (step_gives ship p direction deck s)
    unfolding step_gives
    in_step s d k o h =
        in_collect (looks_at deck) (deck_gives ship p direction s) 0 (length ship.decks) d (place_at s d k) (omega arith) (omega (arith, o.0)) o.1 (in_deck s d k h)

    step_rises : (s : ℕ) → Rising Before (step_gives ship p direction deck s)
    unfolding step_gives
    step_rises s = collect_rises (looks_at deck) (deck_gives ship p direction s) Before (deck_rises s) apart 0 (length ship.decks)
      where
        apart : (j k : ℕ) (x y : Place) → j < k → In x (deck_gives ship p direction s j) → In y (deck_gives ship p direction s k) → Before x y
        apart j k x y l m n =
            let o = of_deck s j x m in
            let q = of_deck s k y n in
            inr (omega (arith, o.0, q.0), inl (omega (arith, o.1, q.1)))

    -- ---- in all steps
    pub record Given (c : Place) : Type 0 where
      pub below : c.step < ship.steps
      pub looked : Looked ship deck c.deck
      pub passes : Passes ship p direction c.step c.deck c.polygon

    pub of_given : (c : Place) → In c (all_given ship p direction deck) → Given c
    unfolding all_given
    of_given c h =
        let r = of_collect (λ k. true) (step_gives ship p direction deck) 0 ship.steps c h in
        let o = of_step r.0 c r.4 in
        record {
          below = omega (arith, r.2, o.0);
          looked = o.1;
          passes = subst (λ (s : ℕ). Passes ship p direction s c.deck c.polygon) (sym o.0) o.2;
        }

    pub in_given : (c : Place) → Given c → In c (all_given ship p direction deck)
    unfolding all_given
    in_given c g =
        in_collect (λ k. true) (step_gives ship p direction deck) 0 ship.steps c.step c (omega arith) (omega (arith, g.below)) tt
        (in_step c.step c.deck c.polygon g.looked g.passes)

    all_rise : Rising Before (all_given ship p direction deck)
    unfolding all_given
    all_rise = collect_rises (λ k. true) (step_gives ship p direction deck) Before step_rises apart 0 ship.steps
      where
        apart : (j k : ℕ) (x y : Place) → j < k → In x (step_gives ship p direction deck j) → In y (step_gives ship p direction deck k) → Before x y
        apart j k x y l m n = inl (omega (arith, (of_step j x m).0, (of_step k y n).0))

    -- ---- none, or the first
    pub none_given : all_given ship p direction deck ≡ [] → NoHit ship p direction deck ship.steps
    none_given e s l d o k h =
        subst (In (place_at s d k)) e (in_given (place_at s d k) (record { below = l; looked = o; passes = h }))

    module _ (c : Place) (rest : List Place) (is : all_given ship p direction deck ≡ c ∷ rest) where
      pub first_given : Given c
      first_given = of_given c (subst (In c) (sym is) (inl refl))

      -- nothing that is given comes before it
      none_before : (x : Place) → Given x → Before x c → ⊥
      none_before x g = go (⊎_elim (λ e. inl e) (λ m. inr ((subst (Rising Before) is all_rise).0 x m)) (subst (In x) is (in_given x g)))
        where
          go : (x ≡ c) ⊎ Before c x → Before x c → ⊥
          go (inl e) (inl a) = omega (arith, ap (λ (y : Place). y.step) e)
          go (inl e) (inr (a, inl b)) = omega (arith, ap (λ (y : Place). y.deck) e)
          go (inl e) (inr (a, inr (b, d))) = omega (arith, ap (λ (y : Place). y.polygon) e)
          go (inr (inl a)) (inl b) = omega arith
          go (inr (inl a)) (inr (b, d)) = omega arith
          go (inr (inr (a, b))) (inl d) = omega arith
          go (inr (inr (a, inl b))) (inr (d, inl e)) = omega arith
          go (inr (inr (a, inl b))) (inr (d, inr (e, f))) = omega arith
          go (inr (inr (a, inr (b, d)))) (inr (e, inl f)) = omega arith
          go (inr (inr (a, inr (b, d)))) (inr (e, inr (f, h))) = omega arith

      pub first_snapped : Snapped ship p direction deck ship.steps (place_bytes ship p direction c)
      unfolding place_bytes
      first_snapped =
          let g = first_given in
          record {
            step = c.step;
            on_deck = c.deck;
            polygon = c.polygon;
            below = g.below;
            looked = g.looked;
            passes = g.passes;
            earliest = λ s l d o k h. none_before (place_at s d k) (record { below = omega (arith, g.below); looked = o; passes = h }) (inl l);
            lowest = λ d l o k h. none_before (place_at c.step d k) (record { below = g.below; looked = o; passes = h }) (inr (refl, inl l));
            least =
                λ k l h. none_before (place_at c.step c.deck k) (record { below = g.below; looked = g.looked; passes = h })
                (inr (refl, inr (refl, l)));
            bits = refl;
          }

    -- ---- nothing in the statement is free
    module _ (S : ℕ) {a b : List ℕ} (x : Snapped ship p direction deck S a) (y : Snapped ship p direction deck S b) where
      same_step : x.step ≡ y.step
      same_step =
          ⊎_elim (λ l. absurd (y.earliest x.step l x.on_deck x.looked x.polygon x.passes))
          (⊎_elim (λ e. e) (λ l. absurd (x.earliest y.step l y.on_deck y.looked y.polygon y.passes)))
          (three x.step y.step)

      there : Passes ship p direction y.step x.on_deck x.polygon
      there = subst (λ (s : ℕ). Passes ship p direction s x.on_deck x.polygon) same_step x.passes

      back : Passes ship p direction x.step y.on_deck y.polygon
      back = subst (λ (s : ℕ). Passes ship p direction s y.on_deck y.polygon) (sym same_step) y.passes

      same_deck : x.on_deck ≡ y.on_deck
      same_deck =
          ⊎_elim (λ l. absurd (y.lowest x.on_deck l x.looked x.polygon there))
          (⊎_elim (λ e. e) (λ l. absurd (x.lowest y.on_deck l y.looked y.polygon back)))
          (three x.on_deck y.on_deck)

      same_polygon : x.polygon ≡ y.polygon
      same_polygon =
          ⊎_elim (λ l. absurd (y.least x.polygon l (subst (λ (d : ℕ). Passes ship p direction y.step d x.polygon) same_deck there)))
          (⊎_elim (λ e. e) (λ l. absurd (x.least y.polygon l (subst (λ (d : ℕ). Passes ship p direction x.step d y.polygon) (sym same_deck) back))))
          (three x.polygon y.polygon)

      pub snapped_once : a ≡ b
      snapped_once = x.bits ∙ rw (same_step, same_deck, same_polygon) (sym y.bits)
