-- Document 01, sections 3 to 6, on one deck of the model: which polygon holds a point, the first sample that hits, and the height at a place.
use Rattle.std.specs.Prelude.{ℕ, ◌+◌, ◌-◌, ◌*◌, List, [], ◌∷◌, Bool, length, Option, Some, None as Unfound, cond, Float}
use Rattle.geometry.specs.declared.Vec2.{Vec2}
use Rattle.geometry.specs.declared.Height.{Height}
use Rattle.geometry.specs.declared.Height.TheVariants.{None}
use Rattle.geometry.specs.Plane.{on_segment}
use Rattle.geometry.specs.Polygon.{point_in_polygon}
use Rattle.geometry.specs.Heights.{Corner, height_along, height_in}
use Rattle.ring.specs.Sample.{sample_of}
use Rattle.ship.specs.Model.{Deck, point_of, height_of, polygon_points, polygon_corners}
use Rattle.hits.specs.declared.Hit.{Hit}
use Rattle.hits.specs.Hits.{polygon_hit, sample_hit}

-- polygon k passes section 3 at p, a point in the deck's own coordinates
unfoldable pub passes_at : Deck → Vec2 → ℕ → Bool
passes_at deck p k = point_in_polygon p (polygon_points deck k)

-- the turn of a deck in step s, around p in the deck's own coordinates
unfoldable pub deck_turn : Deck → Vec2 → Float → ℕ → Option Hit
deck_turn deck p reach s = sample_hit (λ i k. passes_at deck (sample_of p reach s i) k) (length deck.polygons) 0 (10 * s + 1)

-- the first polygon from k on that passes at q, which is sample i
unfoldable pub next_hit : Deck → Vec2 → ℕ → ℕ → Option Hit
next_hit deck q i k = polygon_hit (λ h j. passes_at deck q j) i k (length deck.polygons - k)

-- none where H is empty; the deck offset is not taken off
abbrev pub height_with : List Float → Vec2 → List Corner → Height
height_with [] place corners = None
height_with (h ∷ rest) place corners = height_in place corners

unfoldable pub height_on : Deck → ℕ → Vec2 → Height
height_on deck k place = height_with deck.heights place (polygon_corners deck k)

-- the height at a place along the edge from vertex v to vertex w, where the place is on it
unfoldable pub edge_height : Deck → Vec2 → ℕ → ℕ → Option Height
edge_height deck place v w =
    let a = point_of deck v in
    let b = point_of deck w in
    cond (on_segment place a b) (Some (height_along place a b (height_of deck v) (height_of deck w))) Unfound
