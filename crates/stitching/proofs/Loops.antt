-- The four loops of the walk: over the vertices of deck b, over those of deck a, over the decks b and over the decks a.
use Prim.Native.Nat.{ℕ, ◌+◌, ◌-◌, ◌^◌, ◌≤◌, ◌<◌}
use native.Mathlib.Omega.{arith}
use mathlib.Core.Path.{◌≡◌, refl, sym, ◌∙◌}
use mathlib.Core.Bool.{Bool, true, false}
use mathlib.Core.List.{List, [], ◌∷◌}
use mir.Syntax.{w64}
use mir.Val.{Fits}
use lib.ListN.{length}
use Rattle.geometry.specs.declared.Vec2.{Vec2}
use Rattle.words.specs.Rows.{collect, collect_all}
use Rattle.words.proofs.Collecting.{collect_yes, collect_no, collect_none}
use Rattle.ship.specs.Layout.{decks_in}
use Rattle.ship.specs.Model.{Deck, point_of, deck_of}
use Rattle.ship.specs.Decode.{decode}
use Rattle.ship.specs.Questions.{first_no}
use Rattle.ship.specs.Within.{DeckWithin}
use Rattle.ship.proofs.Facts.{decks_few}
use Rattle.ship.proofs.ModelFacts.{decks_length}
use Rattle.stitching.specs.Points.{StitchPoint, same_point, stitches_at, stitches_between, stitches_from, stitch_points}
use Rattle.stitching.specs.Walk.{stitch_point, stitches_on, PointReady, StitchesPut}
use Rattle.stitching.proofs.Putting.{Putting, putting_start, putting_long, putting_end, putting_turn}
use Rattle.std.specs.Prelude.{Ok}

-- a list made of the numbers below m, of which those from i on are left
module _ (p : ℕ → Bool) (f : ℕ → List StitchPoint) (m i : ℕ) {whole : List StitchPoint} {n₀ : ℕ} {out₀ : List ℕ} {n : ℕ} {out : List ℕ}
    (h : Putting whole n₀ out₀ (collect p f i (m - i)) n out) where
  pub loop_end : m ≤ i → StitchesPut whole n₀ out₀ out n
  loop_end l = putting_end (rw (collect_none p f i m l) at h)

  pub loop_other : i < m → p i ≡ false → Putting whole n₀ out₀ (collect p f (i + 1) (m - (i + 1))) n out
  loop_other l e = rw (collect_no p f i m l e) at h

  pub loop_turn : {n' : ℕ} {out' : List ℕ} → i < m → p i ≡ true → StitchesPut (f i) n out out' n'
      → Putting whole n₀ out₀ (collect p f (i + 1) (m - (i + 1))) n' out'
  loop_turn l e t = putting_turn (f i) (collect p f (i + 1) (m - (i + 1))) (rw (collect_yes p f i m l e) at h) t

-- ---- `put_at`: what is left from vertex j on, of the m vertices of a deck
abbrev pub left_at : ℕ → ℕ → Vec2 → Deck → ℕ → ℕ → List StitchPoint
left_at a b p deck m j = collect (λ k. same_point p (point_of deck k)) (λ k. stitch_point a b p ∷ []) j (m - j)

module _ (a b : ℕ) (p : Vec2) (deck : Deck) {m : ℕ} where
  pub at_start : {n : ℕ} {out : List ℕ} → m ≡ length deck.vertices → Fits w64 n → length out < 2 ^ 64
      → Putting (stitches_on a b p deck) n out (left_at a b p deck m 0) n out
  unfolding stitches_on
  at_start e l small =
      let all : m - 0 ≡ length deck.vertices = omega arith in
      rw all (putting_start (stitches_on a b p deck) l small)

  -- q is the vertex, and r whether it is the same point
  module _ {j : ℕ} {whole : List StitchPoint} {n₀ : ℕ} {out₀ : List ℕ} {n : ℕ} {out : List ℕ} (h : Putting whole n₀ out₀ (left_at a b p deck m j) n out) {q : Vec2} {r : Bool}
      (l : j < m) (vertex : q ≡ point_of deck j) (asked : r ≡ same_point p q) where
    pub at_other : r ≡ false → Putting whole n₀ out₀ (left_at a b p deck m (j + 1)) n out
    at_other e = loop_other _ _ m j h l (rw (← vertex) (sym asked ∙ e))

    pub at_same : {n' : ℕ} {out' : List ℕ} → r ≡ true → StitchesPut (stitch_point a b p ∷ []) n out out' n'
        → Putting whole n₀ out₀ (left_at a b p deck m (j + 1)) n' out'
    at_same e t = loop_turn _ _ m j h l (rw (← vertex) (sym asked ∙ e)) t

pub ruleset at_vertices = (at_start, at_other, at_same, loop_end, putting_long)

-- ---- `put_between`: what is left from vertex i on, of the m vertices of deck a
abbrev pub left_between : List ℕ → ℕ → ℕ → ℕ → ℕ → List StitchPoint
left_between file a b m i = collect_all (stitches_at (decode file) a b) i (m - i)

module _ (file : List ℕ) (a b : ℕ) {from : Deck} (is : from ≡ deck_of (decode file) a) where
  pub between_start : {m n : ℕ} {out : List ℕ} → m ≡ length from.vertices → Fits w64 n → length out < 2 ^ 64
      → Putting (stitches_between (decode file) a b) n out (left_between file a b m 0) n out
  unfolding stitches_between
  between_start {m} e l small =
      let all : m - 0 ≡ length (deck_of (decode file) a).vertices = rw (← is) (omega arith) in
      rw all (putting_start (stitches_between (decode file) a b) l small)

  -- the vertices of deck b at vertex i
  at_is : (i : ℕ) {to : Deck} {p : Vec2} → to ≡ deck_of (decode file) b → p ≡ point_of from i → stitches_on a b p to ≡ stitches_at (decode file) a b i
  unfolding stitches_on stitches_at
  at_is i to_is vertex = rw (vertex, is, to_is)

  pub between_turn : {m : ℕ} (i : ℕ) {to : Deck} {p : Vec2} {whole : List StitchPoint} {n₀ : ℕ} {out₀ : List ℕ} {n : ℕ} {out : List ℕ} {n' : ℕ} {out' : List ℕ}
      → Putting whole n₀ out₀ (left_between file a b m i) n out → i < m → to ≡ deck_of (decode file) b → p ≡ point_of from i
      → StitchesPut (stitches_on a b p to) n out out' n' → Putting whole n₀ out₀ (left_between file a b m (i + 1)) n' out'
  between_turn {m} i h l to_is vertex t =
      loop_turn (λ k. true) (stitches_at (decode file) a b) m i h l refl (rw (at_is i to_is vertex) at t)

pub point_ready : (file : List ℕ) (i : ℕ) {a b : ℕ} {from : Deck} {p : Vec2} → DeckWithin from → first_no file ≡ Ok tt → a < decks_in file → b < decks_in file
    → p ≡ point_of from i → PointReady a b p
point_ready file i deck passed a_there b_there vertex =
    let few = decks_few file passed in
    record { a_small = omega arith; b_small = omega arith; within = rw vertex (deck.point i) }

pub ruleset between = (between_start, between_turn, point_ready, loop_end, putting_long)

-- ---- `put_from` and `put_all`
module _ (file : List ℕ) {decks : ℕ} (all : decks ≡ decks_in file) {n : ℕ} {out : List ℕ} (l : Fits w64 n) (small : length out < 2 ^ 64) where
  pub from_start : (a : ℕ) → Putting (stitches_from (decode file) a) n out (collect_all (stitches_between (decode file) a) (a + 1) (decks - (a + 1))) n out
  unfolding stitches_from
  from_start a = rw (all, ← decks_length file) (putting_start (stitches_from (decode file) a) l small)

  pub all_start : Putting (stitch_points (decode file)) n out (collect_all (stitches_from (decode file)) 0 (decks - 0)) n out
  unfolding stitch_points
  all_start =
      let e : decks - 0 ≡ length (decode file).decks = omega (arith, decks_length file) in
      rw e (putting_start (stitch_points (decode file)) l small)

pub ruleset over_decks = (from_start, all_start, loop_turn, loop_end, putting_long)
