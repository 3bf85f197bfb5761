-- `point_in_polygon` and `height_at`: what the walk over a polygon's edges finds, and what is taken where it finds nothing, is the polygon's answer.
use Prim.Native.Nat.{ℕ, ◌≤◌, ◌<◌}
use native.Mathlib.Omega.{arith}
use mathlib.Core.Path.{◌≡◌, refl, sym, ◌∙◌}
use mathlib.Core.Bool.{Bool, true, false}
use mathlib.Core.List.{List, [], ◌∷◌, map}
use lib.ListN.{length, get_or, length-map}
use lib.Ieee.{Float}
use Rattle.std.specs.Prelude.{Option, Some, None, slice_get, unwrap_or, cond}
use Rattle.std.specs.Option.{option_or}
use Rattle.geometry.specs.declared.Vec2.{Vec2}
use Rattle.geometry.specs.declared.Height.{Height}
use Rattle.geometry.specs.declared.Height.TheVariants.{Known, None as Missing}
use Rattle.geometry.specs.declared.EdgeTest.{EdgeTest}
use Rattle.geometry.specs.declared.EdgeTest.TheVariants.{Inside, Outside, Next}
use Rattle.geometry.specs.Polygon.{edge_test_of, edge_answer, edges_from, point_in_polygon}
use Rattle.geometry.specs.Plane.{on_segment}
use Rattle.geometry.specs.Heights.{Corner, height_from, mean_height, height_in}
use Rattle.geometry.specs.EdgeWalk.{first_from, first_of_edges}
use Rattle.geometry.proofs.EdgeLoop.{item_at, made_at}
use Rattle.ship.specs.Model.{Deck, point_of, corners_of, corner_at, polygon_points, polygon_corners}
use Rattle.search.specs.OnDeck.{passes_at, height_with, edge_height, height_on}

-- ---- `point_in_polygon`
abbrev pub said : EdgeTest → Option Bool
said Inside = Some true
said Outside = Some false
said Next = None

last : (t : EdgeTest) → unwrap_or (said t) true ≡ edge_answer t true
last Inside = refl
last Outside = refl
last Next = refl

more : (t : EdgeTest) (later : Option Bool) {r : Bool} → unwrap_or later true ≡ r → unwrap_or (option_or (said t) later) true ≡ edge_answer t r
more Inside later e = refl
more Outside later e = refl
more Next later e = e

module _ (p : Vec2) where
  abbrev pub edge_says : Vec2 → Vec2 → Option Bool
  edge_says a b = said (edge_test_of p a b)

  found_from : (first a : Vec2) (rest : List Vec2) → unwrap_or (first_from edge_says first a rest) true ≡ edges_from p first a rest
  unfolding first_from edges_from
  found_from first a [] = last (edge_test_of p a first)
  found_from first a (b ∷ rest) = more (edge_test_of p a b) _ (found_from first b rest)

  found_in : (points : List Vec2) → 1 ≤ length points → unwrap_or (first_of_edges edge_says points) true ≡ point_in_polygon p points
  unfolding first_of_edges point_in_polygon
  found_in [] h = let no : ⊥ = omega arith in absurd no
  found_in (a ∷ rest) h = found_from a a rest

module _ (deck : Deck) (k : ℕ) where
  pub points_long : {count : ℕ} → count ≡ length (corners_of deck k) → length (polygon_points deck k) ≡ count
  unfolding polygon_points
  points_long n = rw (length-map, n)

  pub point_at : {j : ℕ} {r : Vec2} → j < length (polygon_points deck k) → r ≡ point_of deck (get_or (corners_of deck k) j 0)
      → slice_get (polygon_points deck k) j ≡ Some r
  unfolding polygon_points
  point_at h e = made_at (point_of deck) (corners_of deck k) h e

  pub passes_is : (p : Vec2) {count : ℕ} {found : Option Bool} {r : Bool} → count ≡ length (corners_of deck k) → 1 ≤ count
      → found ≡ first_of_edges (edge_says p) (polygon_points deck k) → r ≡ unwrap_or found true → r ≡ passes_at deck p k
  unfolding passes_at
  passes_is p n h e f = f ∙ rw e (found_in p (polygon_points deck k) (rw (points_long n) h))

pub ruleset passing = (points_long, point_at, passes_is)

-- ---- `height_at`
heights_last : (t : Bool) (here otherwise : Height) → unwrap_or (cond t (Some here) None) otherwise ≡ cond t here otherwise
heights_last true here otherwise = refl
heights_last false here otherwise = refl

heights_more : (t : Bool) (here otherwise : Height) (later : Option Height) {r : Height} → unwrap_or later otherwise ≡ r
    → unwrap_or (option_or (cond t (Some here) None) later) otherwise ≡ cond t here r
heights_more true here otherwise later e = refl
heights_more false here otherwise later e = e

-- H as a deck has it: what is said of it holds where it is not empty
some_heights : (l : List Float) (place : Vec2) (corners : List Corner) → 0 < length l → height_with l place corners ≡ height_in place corners
some_heights [] place corners h = let no : ⊥ = omega arith in absurd no
some_heights (x ∷ rest) place corners h = refl

no_heights : (l : List Float) (place : Vec2) (corners : List Corner) → length l ≡ 0 → height_with l place corners ≡ Missing
no_heights [] place corners h = refl
no_heights (x ∷ rest) place corners h = let no : ⊥ = omega arith in absurd no

module _ (deck : Deck) (place : Vec2) where
  height_found : (otherwise : Height) (first a : ℕ) (rest : List ℕ)
      → unwrap_or (first_from (edge_height deck place) first a rest) otherwise
      ≡ height_from place otherwise (corner_at deck first) (corner_at deck a) (map (corner_at deck) rest)
  unfolding first_from height_from edge_height
  height_found otherwise first a [] = heights_last (on_segment place (point_of deck a) (point_of deck first)) _ _
  height_found otherwise first a (b ∷ rest) =
      heights_more (on_segment place (point_of deck a) (point_of deck b)) _ _ _ (height_found otherwise first b rest)

  height_among : (l : List ℕ) → 1 ≤ length l
      → unwrap_or (first_of_edges (edge_height deck place) l) (Known (mean_height (map (corner_at deck) l)))
      ≡ height_in place (map (corner_at deck) l)
  unfolding first_of_edges height_in
  height_among [] h = let no : ⊥ = omega arith in absurd no
  height_among (a ∷ rest) h = height_found (Known (mean_height (corner_at deck a ∷ map (corner_at deck) rest))) a a rest

  module _ (k : ℕ) where
    pub height_none : {n : ℕ} → n ≡ length deck.heights → n ≡ 0 → Missing ≡ height_on deck k place
    unfolding height_on
    height_none e h = sym (no_heights deck.heights place (polygon_corners deck k) (sym e ∙ h))

    module _ {n count : ℕ} {found : Option Height} (have : n ≡ length deck.heights) (some : n ≡ 0 → ⊥)
        (c : count ≡ length (corners_of deck k)) (h : 1 ≤ count) (e : found ≡ first_of_edges (edge_height deck place) (corners_of deck k)) where
      height_is : unwrap_or found (Known (mean_height (polygon_corners deck k))) ≡ height_on deck k place
      unfolding height_on polygon_corners
      height_is =
          rw e (height_among (corners_of deck k) (rw c at h))
          ∙ sym (some_heights deck.heights place (map (corner_at deck) (corners_of deck k)) (omega (arith, have)))

      pub height_edge : {r : Height} → found ≡ Some r → r ≡ height_on deck k place
      height_edge f = rw f at height_is

      pub height_mean : {m : Float} → found ≡ None → m ≡ mean_height (polygon_corners deck k) → Known m ≡ height_on deck k place
      height_mean f g = rw g (rw f at height_is)

pub ruleset heights = (item_at, height_none, height_edge, height_mean)
