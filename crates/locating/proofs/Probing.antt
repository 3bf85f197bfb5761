-- The nine probes of a deck: the loop over them, and how large the number of a polygon is that they find on a deck of a passed file.
use Prim.Native.Nat.{ℕ, zero, suc, ◌+◌, ◌-◌, ◌≤◌, ◌<◌, ◌^◌}
use mathlib.Core.Path.{◌≡◌, refl, sym, ap, ◌∙◌}
use mathlib.Core.Bool.{Bool, true, false, cond}
use mathlib.Core.List.{List}
use native.Mathlib.Omega.{arith}
use lib.ListN.{length}
use lib.Ieee.{Float}
use Rattle.geometry.specs.declared.Vec2.{Vec2}
use Rattle.ring.specs.Probe.{probe_of}
use Rattle.std.specs.Prelude.{Option, Some, None, Ok}
use Rattle.hits.specs.declared.Hit.{Hit}
use Rattle.hits.specs.Candidates.{hit as hit_at}
use Rattle.hits.specs.Hits.{or_else, polygon_hit, sample_hit}
use Rattle.hits.proofs.HitLoops.{polygon_hit_same, sample_hit_yes, sample_hit_no, sample_hit_none}
use Rattle.ship.specs.Layout.{decks_in}
use Rattle.ship.specs.Model.{Deck}
use Rattle.ship.specs.Decode.{decode}
use Rattle.ship.specs.Questions.{first_no}
use Rattle.ship.proofs.ModelFacts.{deck_of_within}
use Rattle.search.specs.OnDeck.{passes_at, next_hit}
use Rattle.locating.specs.Locating.{probe_hit, hit_on}

-- ---- `probe_hit`: the probes before i missed
abbrev passes_at_probe : Deck → Vec2 → Float → ℕ → ℕ → Bool
passes_at_probe deck p reach i k = passes_at deck (probe_of p reach i) k

pub record Probing (deck : Deck) (p : Vec2) (reach : Float) (i : ℕ) : Type 0 where
  pub same : probe_hit deck p reach ≡ sample_hit (passes_at_probe deck p reach) (length deck.polygons) i (9 - i)

pub probing_all : {deck : Deck} {p : Vec2} {reach : Float} → Probing deck p reach 0
unfolding probe_hit
probing_all = record { same = refl }

-- the hit of a probe, over all polygons
at_probe : (deck : Deck) (p : Vec2) (reach : Float) (i : ℕ) {q : Vec2} → q ≡ probe_of p reach i
    → polygon_hit (passes_at_probe deck p reach) i 0 (length deck.polygons) ≡ next_hit deck q i 0
unfolding next_hit
at_probe deck p reach i at =
    let e : length deck.polygons - 0 ≡ length deck.polygons = omega arith in
    rw e (polygon_hit_same _ _ i (λ k. rw at) 0 (length deck.polygons))

module _ {deck : Deck} {p : Vec2} {reach : Float} {i : ℕ} (h : Probing deck p reach i) where
  pub probing_none : 9 ≤ i → None ≡ probe_hit deck p reach
  probing_none l = sym (h.same ∙ sample_hit_none (passes_at_probe deck p reach) (length deck.polygons) i 9 l)

  module _ {q : Vec2} {hit : Option Hit} (l : i < 9) (at : q ≡ probe_of p reach i) (found : hit ≡ next_hit deck q i 0) where
    pub probing_hit : {h : Hit} → hit ≡ Some h → Some h ≡ probe_hit deck p reach
    probing_hit {h = probed} e =
        sym (h.same ∙ sample_hit_yes (passes_at_probe deck p reach) (length deck.polygons) i 9 probed l (at_probe deck p reach i at ∙ sym found ∙ e))

    pub probing_more : hit ≡ None → Probing deck p reach (i + 1)
    probing_more e =
        record { same = h.same ∙ sample_hit_no (passes_at_probe deck p reach) (length deck.polygons) i 9 l (at_probe deck p reach i at ∙ sym found ∙ e) }

pub ruleset probing = (probing_all, probing_none, probing_hit, probing_more)

-- ---- a hit's polygon is one of the deck
polygon_below : (passes : ℕ → ℕ → Bool) (i a n : ℕ) {h : Hit} → polygon_hit passes i a n ≡ Some h → h.polygon < a + n
unfolding polygon_hit
polygon_below passes i a zero e = let z : ◌≡◌ {A = ℕ} 0 1 = cc in absurd (omega arith)
polygon_below passes i a (suc n) {h} e = go (passes i a) e (λ f. polygon_below passes i (a + 1) n f)
  where
    go : (b : Bool) → cond b (Some (hit_at i a)) (polygon_hit passes i (a + 1) n) ≡ Some h → (polygon_hit passes i (a + 1) n ≡ Some h → h.polygon < a + 1 + n)
        → h.polygon < a + suc n
    go true f later = let q : hit_at i a ≡ h = cc in omega (arith, ap (λ (x : Hit). x.polygon) q)
    go false f later = omega (arith, later f)

sample_below : (passes : ℕ → ℕ → Bool) (polygons i n : ℕ) {h : Hit} → sample_hit passes polygons i n ≡ Some h → h.polygon < polygons
unfolding sample_hit
sample_below passes polygons i zero e = let z : ◌≡◌ {A = ℕ} 0 1 = cc in absurd (omega arith)
sample_below passes polygons i (suc n) {h} e = go (polygon_hit passes i 0 polygons) refl e (λ f. sample_below passes polygons (i + 1) n f)
  where
    go : (hit : Option Hit) → polygon_hit passes i 0 polygons ≡ hit → or_else hit (sample_hit passes polygons (i + 1) n) ≡ Some h
        → (sample_hit passes polygons (i + 1) n ≡ Some h → h.polygon < polygons) → h.polygon < polygons
    go (Some found) f e' later = omega (arith, polygon_below passes i 0 polygons (f ∙ e'))
    go None f e' later = later e'

-- ---- `hit_on`: its polygon can be packed
pub hit_polygon : (file : List ℕ) → first_no file ≡ Ok tt → {d : ℕ} → d < decks_in file → (p : Vec2) {hit : Option Hit} {h : Hit} → hit ≡ hit_on (decode file) p d
    → hit ≡ Some h → h.polygon < 2 ^ 24
unfolding hit_on probe_hit
hit_polygon file passed {d} there p is e = omega (arith, sample_below _ _ 0 9 (sym is ∙ e), (deck_of_within file d passed there).few_polygons)
