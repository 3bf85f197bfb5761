-- The walk over the pairs of vertices: what it counts and what it writes, of any part of the list of stitch points.
use Rattle.std.specs.Prelude.{ℕ, ◌+◌, ◌-◌, ◌*◌, ◌≤◌, ◌<◌, ◌≡◌, List, [], ◌∷◌, length}
use Rattle.geometry.specs.declared.Vec2.{Vec2}
use Rattle.geometry.specs.Bounds.{PointWithin}
use Rattle.words.specs.Bytes.{joined, splice}
use Rattle.words.specs.Rows.{collect}
use Rattle.ship.specs.Model.{Deck, point_of}
use Rattle.stitching.specs.Points.{StitchPoint, same_point, stitch_size, stitch_bytes}

abbrev pub stitch_point : ℕ → ℕ → Vec2 → StitchPoint
stitch_point a b p = record { a = a; b = b; point = p }

-- p of deck a against each vertex of deck b
unfoldable pub stitches_on : ℕ → ℕ → Vec2 → Deck → List StitchPoint
stitches_on a b p deck = collect (λ j. same_point p (point_of deck j)) (λ j. stitch_point a b p ∷ []) 0 (length deck.vertices)

-- the largest number of 64 bits, where a count stays
abbrev pub largest : ℕ
largest = 0xFFFF_FFFF_FFFF_FFFF

abbrev pub counted : ℕ → ℕ
counted n = n - (n - largest)

-- The stitch points of a list come after n others. They are counted, and written where the output has room for all of them.
pub record StitchesPut (list : List StitchPoint) (n : ℕ) (out out' : List ℕ) (r : ℕ) : Type 0 where
  pub count : r ≡ counted (n + length list)
  pub long : length out' ≡ length out
  pub written : stitch_size * (n + length list) ≤ length out → out' ≡ splice out (stitch_size * n) (joined stitch_bytes list)

-- ---- what a function needs that writes their entries
pub record PointReady (a b : ℕ) (p : Vec2) : Type 0 where
  pub a_small : a < 256
  pub b_small : b < 256
  pub within : PointWithin 1000000 p
