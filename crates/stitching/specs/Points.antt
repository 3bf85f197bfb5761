-- Document 01, section 8, `find_stitch_points`: its entries and its questions.
use Rattle.std.specs.Prelude.{ℕ, ◌+◌, ◌-◌, Bool, ◌&&◌, List, [], ◌∷◌, ℤ, length}
use Rattle.std.specs.Float.{binary32}
use Rattle.std.specs.Float.Ieee.{eq, to_bits}
use Rattle.geometry.specs.declared.Vec2.{Vec2}
use Rattle.words.specs.Bytes.{words_of}
use Rattle.words.specs.Rows.{collect, collect_all}
use Rattle.answers.specs.Replies.{Reply, reply_of, Replied, RepliedCode, Answer}
use Rattle.ship.specs.Model.{Ship, point_of, deck_of}
use Rattle.ship.specs.Decode.{decode}
use Rattle.ship.specs.Questions.{first_no}

-- a point where two decks have a vertex each
pub record StitchPoint : Type 0 where
  pub a : ℕ
  pub b : ℕ
  pub point : Vec2

-- 'coordinates equal as floats (-0 equals 0)'
abbrev pub same_point : Vec2 → Vec2 → Bool
same_point p q = eq p.x q.x && eq p.y q.y

module _ (ship : Ship) where
  abbrev pub vertex_count : ℕ → ℕ
  vertex_count d = length (deck_of ship d).vertices

  -- deck a's vertex i against each vertex of deck b; offsets are ignored
  unfoldable pub stitches_at : ℕ → ℕ → ℕ → List StitchPoint
  stitches_at a b i =
      let p = point_of (deck_of ship a) i in
      collect (λ j. same_point p (point_of (deck_of ship b) j)) (λ j. record { a = a; b = b; point = p } ∷ []) 0 (vertex_count b)

  -- 'then vertex of a, then of b', repeats kept
  unfoldable pub stitches_between : ℕ → ℕ → List StitchPoint
  stitches_between a b = collect_all (stitches_at a b) 0 (vertex_count a)

  -- 'deck pairs a < b rising'
  unfoldable pub stitches_from : ℕ → List StitchPoint
  stitches_from a = collect_all (stitches_between a) (a + 1) (length ship.decks - (a + 1))

  unfoldable pub stitch_points : List StitchPoint
  stitch_points = collect_all stitches_from 0 (length ship.decks)

-- '16 bytes each: a, b, x, y of a's vertex'
abbrev pub stitch_size : ℕ
stitch_size = 16

unfoldable pub stitch_bytes : StitchPoint → List ℕ
stitch_bytes p = words_of (p.a ∷ p.b ∷ to_bits binary32 p.point.x ∷ to_bits binary32 p.point.y ∷ [])

abbrev pub stitch_points_reply : List ℕ → Reply
stitch_points_reply file = reply_of (first_no file) stitch_bytes (stitch_points (decode file))

abbrev pub StitchPointsReplied : List ℕ → List ℕ → List ℕ → Answer → Type 0
StitchPointsReplied file out out' r = Replied (stitch_points_reply file) out out' r

abbrev pub StitchPointsCode : List ℕ → List ℕ → List ℕ → ℤ → Type 0
StitchPointsCode file out out' r = RepliedCode (stitch_points_reply file) out out' r
