-- All that a seat's search asks of a ship. The step number S is no part of it.
use Rattle.std.specs.Prelude.{ℕ, Bool}
use Rattle.geometry.specs.declared.Vec2.{Vec2}
use Rattle.geometry.specs.declared.Height.{Height}
use Rattle.hits.specs.declared.Candidate.{Candidate}
use Rattle.survey.specs.declared.Wish.{Wish}

-- what the decks show around a point, open or not
pub record Shown : Type 0 where
  -- how many polygons a deck has
  pub polygons : ℕ → ℕ
  -- whether the polygon passes section 3 at the sample
  pub passes : Candidate → Bool
  -- sample + deck offset
  pub place : Candidate → Vec2
  -- the height of the polygon at that place
  pub height : Candidate → Height

pub record View : Type 0 where
  pub shown : Shown
  -- how many decks there are, and which of them are open to the seat
  pub decks : ℕ
  pub opens : ℕ → Bool
  pub wish : Wish
