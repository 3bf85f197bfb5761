-- What the inner functions of the merging need and promise: numbers that change places, and a flood over those that are left.
use Rattle.std.specs.Prelude.{ℕ, ◌+◌, ◌*◌, ◌<◌, ◌≤◌, ◌≡◌, true, false, List, T, length}
use Rattle.words.specs.Bytes.{byte_at, number_at}
use Rattle.words.specs.Rows.{has}
use Rattle.ship.specs.Layout.{number_size}
use Rattle.ship.specs.Decode.{decode}
use Rattle.touching.specs.Touching.{touches, PolygonThere}
use Rattle.touching.specs.Reach.{Chain}

-- ---- places
-- the numbers at the places from t up to n rise
abbrev pub RisingFrom : List ℕ → ℕ → ℕ → Type 0
RisingFrom list t n = (j k : ℕ) → t ≤ j → j < k → k < n → number_at list j < number_at list k

-- x stands at one of these places
pub record StandsIn (list : List ℕ) (t n x : ℕ) : Type 0 where
  pub place : ℕ
  pub low : t ≤ place
  pub high : place < n
  pub is : x ≡ number_at list place

-- the same numbers stand at them, and no byte before them is another
pub record Reordered (list list' : List ℕ) (t n : ℕ) : Type 0 where
  pub long : length list' ≡ length list
  pub before : (k : ℕ) → k < number_size * t → byte_at list' k ≡ byte_at list k
  pub old : (k : ℕ) → t ≤ k → k < n → StandsIn list t n (number_at list' k)
  pub kept : (k : ℕ) → t ≤ k → k < n → StandsIn list' t n (number_at list k)

-- ---- `swap`
pub record SwapReady (list : List ℕ) (i w : ℕ) : Type 0 where
  pub low : i ≤ w
  pub room : number_size * w + number_size ≤ length list

pub record Swapped (list list' : List ℕ) (i w : ℕ) : Type 0 where
  pub long : length list' ≡ length list
  pub before : (k : ℕ) → k < number_size * i → byte_at list' k ≡ byte_at list k
  pub first : number_at list' i ≡ number_at list w
  pub second : number_at list' w ≡ number_at list i
  pub others : (k : ℕ) → (k ≡ i → ⊥) → (k ≡ w → ⊥) → number_at list' k ≡ number_at list k

-- ---- `part`
pub record PartReady (file list : List ℕ) (a t n : ℕ) : Type 0 where
  pub touch : PolygonThere file a
  pub low : t ≤ n
  pub room : number_size * n ≤ length list
  pub rising : RisingFrom list t n

-- of the numbers from i on those that a touches come first, up to w; the others rise
pub record Parted (file list list' : List ℕ) (a n i w : ℕ) : Type 0 where
  pub reordered : Reordered list list' i n
  pub mid : i ≤ w
  pub high : w ≤ n
  pub touched : (k : ℕ) → i ≤ k → k < w → touches (decode file) a (number_at list' k) ≡ true
  pub apart : (k : ℕ) → w ≤ k → k < n → touches (decode file) a (number_at list' k) ≡ false
  pub rising : RisingFrom list' w n

-- ---- `flood`
pub record FloodReady (file list : List ℕ) (head n : ℕ) : Type 0 where
  pub some : head < n
  pub room : number_size * n ≤ length list
  pub there : (k : ℕ) → head ≤ k → k < n → PolygonThere file (number_at list k)
  pub rising : RisingFrom list head n

-- The number at `head` reaches those after it up to t, through any list that has them all. Those up to h touch none from t on.
pub record Flooded (file list list' : List ℕ) (head n h t : ℕ) : Type 0 where
  pub reordered : Reordered list list' (head + 1) n
  pub low : head < t
  pub mid : h ≤ t
  pub high : t ≤ n
  pub rising : RisingFrom list' t n
  pub reached : (l : List ℕ) → ((k : ℕ) → head ≤ k → k < n → T (has l (number_at list k))) → (k : ℕ) → head ≤ k → k < t
      → Chain (touches (decode file)) l (number_at list head) (number_at list' k)
  pub closed : (k j : ℕ) → head ≤ k → k < h → t ≤ j → j < n → touches (decode file) (number_at list' k) (number_at list' j) ≡ false
