-- The merging of a list of packed polygons that stands in lent bytes, one number after the other.
use Rattle.std.specs.Prelude.{ℕ, ◌*◌, ◌<◌, ◌≤◌, ◌≡◌, List, length}
use Rattle.words.specs.Bytes.{number_at, slice, words_of}
use Rattle.words.specs.Rows.{rows}
use Rattle.ship.specs.Layout.{number_size}
use Rattle.ship.specs.Decode.{decode}
use Rattle.touching.specs.Touching.{touches, PolygonThere}
use Rattle.touching.specs.Reach.{merged}

-- the first n numbers
abbrev pub numbers_in : List ℕ → ℕ → List ℕ
numbers_in list n = rows (number_at list) 0 n

-- those of them that stay
abbrev pub staying : List ℕ → List ℕ → ℕ → List ℕ
staying file list n = merged (touches (decode file)) (numbers_in list n)

-- n of the polygons of a ship file in rising order, which is the order of candidates
pub record ListReady (file list : List ℕ) (n : ℕ) : Type 0 where
  pub room : number_size * n ≤ length list
  pub there : (k : ℕ) → k < n → PolygonThere file (number_at list k)
  pub rising : (j k : ℕ) → j < k → k < n → number_at list j < number_at list k

-- those that stay stand first, in their order; what follows them is of no meaning
pub record ListMerged (file list list' : List ℕ) (n r : ℕ) : Type 0 where
  pub count : r ≡ length (staying file list n)
  pub first : slice list' 0 (number_size * r) ≡ words_of (staying file list n)
  pub long : length list' ≡ length list
