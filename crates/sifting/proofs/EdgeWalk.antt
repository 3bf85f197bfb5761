-- `may_pass`: the answer that the walk over a polygon's edges finds, and yes where it finds none, is the polygon's. And what it means.
use Prim.Native.Nat.{ℕ, ◌≤◌}
use native.Mathlib.Omega.{arith}
use mathlib.Core.Path.{◌≡◌, refl, ◌∙◌}
use mathlib.Core.Bool.{Bool, true, false}
use mathlib.Core.List.{List, [], ◌∷◌, map}
use lib.ListN.{length}
use Rattle.std.specs.Prelude.{Option, Some, None, unwrap_or}
use Rattle.std.specs.Option.{option_or}
use Rattle.geometry.specs.declared.Vec2.{Vec2}
use Rattle.geometry.specs.EdgeWalk.{first_from, first_of_edges}
use Rattle.boxes.specs.declared.BoundingBox.{BoundingBox}
use Rattle.boxes.specs.declared.BoxTest.{BoxTest}
use Rattle.boxes.specs.declared.BoxTest.TheVariants.{Never, Next, Maybe}
use Rattle.boxes.specs.Box.{InBox, BoxWithin, PointsWithin, box_test_of, box_answer, may_pass_from, may_pass}
use Rattle.boxes.proofs.Polygons.{passes_none}
use Rattle.ship.specs.Model.{Deck, point_of, corners_of, polygon_points}
use Rattle.ship.specs.Within.{DeckWithin}
use Rattle.search.specs.OnDeck.{passes_at}
use Rattle.search.proofs.EdgeWalk.{points_long, point_at}
use Rattle.sifting.specs.Sifted.{may_pass_at}

abbrev pub said : BoxTest → Option Bool
said Never = Some false
said Next = None
said Maybe = Some true

last : (t : BoxTest) → unwrap_or (said t) true ≡ box_answer t true
last Never = refl
last Next = refl
last Maybe = refl

more : (t : BoxTest) (later : Option Bool) {r : Bool} → unwrap_or later true ≡ r → unwrap_or (option_or (said t) later) true ≡ box_answer t r
more Never later e = refl
more Next later e = e
more Maybe later e = refl

module _ (bounds : BoundingBox) where
  abbrev pub edge_says : Vec2 → Vec2 → Option Bool
  edge_says a b = said (box_test_of bounds a b)

  found_from : (first a : Vec2) (rest : List Vec2) → unwrap_or (first_from edge_says first a rest) true ≡ may_pass_from bounds first a rest
  unfolding first_from may_pass_from
  found_from first a [] = last (box_test_of bounds a first)
  found_from first a (b ∷ rest) = more (box_test_of bounds a b) _ (found_from first b rest)

  found_in : (points : List Vec2) → 1 ≤ length points → unwrap_or (first_of_edges edge_says points) true ≡ may_pass bounds points
  unfolding first_of_edges may_pass
  found_in [] h = let no : ⊥ = omega arith in absurd no
  found_in (a ∷ rest) h = found_from a a rest

pub may_pass_is : (deck : Deck) (k : ℕ) (bounds : BoundingBox) {count : ℕ} {found : Option Bool} {r : Bool} → count ≡ length (corners_of deck k)
    → 1 ≤ count → found ≡ first_of_edges (edge_says bounds) (polygon_points deck k) → r ≡ unwrap_or found true → r ≡ may_pass_at deck bounds k
unfolding may_pass_at
may_pass_is deck k bounds n h e f = f ∙ rw e (found_in bounds (polygon_points deck k) (rw (points_long deck k n) h))

pub ruleset edges = (points_long, point_at, may_pass_is)

-- ---- a no means that the polygon passes at no point of the box
module _ {deck : Deck} (within : DeckWithin deck) where
  points_within : (l : List ℕ) → PointsWithin 1000000 (map (point_of deck) l)
  points_within [] = tt
  points_within (i ∷ rest) = (within.point i, points_within rest)

  pub sifted_out : {bounds : BoundingBox} {q : Vec2} → BoxWithin 4000000 bounds → InBox bounds q → (k : ℕ) → may_pass_at deck bounds k ≡ false
      → passes_at deck q k ≡ false
  unfolding may_pass_at passes_at polygon_points
  sifted_out w i k e = passes_none w i (polygon_points deck k) (points_within (corners_of deck k)) e
