-- What the functions that label keep: in `out` the labels so far, and in `work` a queue, on which each polygon is put once, when it gets its label.
use Rattle.std.specs.Prelude.{ℕ, ◌+◌, ◌*◌, ◌<◌, ◌≤◌, ◌≡◌, Bool, true, not, cond, ◌⊎◌, List, ◌++◌, T, eqb, length, get_or, drop, replicate}
use Rattle.words.specs.Bytes.{all_ones, number_at, words_of, put_u32}
use Rattle.words.specs.Rows.{how_many}
use Rattle.ship.specs.Layout.{number_size}
use Rattle.ship.specs.Model.{Deck, neighbours_of, corners_of}
use Rattle.islands.specs.Reach.{Reaches, IsLabel}
use Rattle.islands.specs.Islands.{list_of, names, deck_labels, question19}

-- in a label's place: none yet. Question 9 leaves no polygon of that number.
abbrev pub no_label : ℕ
no_label = all_ones

unfoldable pub has_label : List ℕ → ℕ → Bool
has_label out k = not (eqb (number_at out k) no_label)

abbrev pub Labelled : List ℕ → ℕ → Type 0
Labelled out k = has_label out k ≡ true

-- ---- one polygon
-- e has a label: the one that it had, or else i, and then it stands at the end of the queue
pub record Marked (e i tail : ℕ) (out out' work work' : List ℕ) (tail' : ℕ) : Type 0 where
  pub out_is : out' ≡ cond (has_label out e) out (put_u32 out (number_size * e) i)
  pub work_is : work' ≡ cond (has_label out e) work (put_u32 work (number_size * tail) e)
  pub tail_is : tail' ≡ cond (has_label out e) tail (tail + 1)

pub record MarkReady (e i tail : ℕ) (out work : List ℕ) : Type 0 where
  pub label_room : number_size * e + number_size ≤ length out
  pub queue_room : (Labelled out e → ⊥) → number_size * tail + number_size ≤ length work
  pub number_fits : e < no_label
  pub label_fits : i < no_label

-- ---- the state of the walk from i
-- the first n numbers of a slice, as a list
pub record Numbers (n : ℕ) (s : List ℕ) : Type 0 where
  pub numbers : List ℕ
  pub long : length numbers ≡ n
  pub bytes : s ≡ words_of numbers ++ drop (number_size * n) s

pub record Walking (names : ℕ → ℕ → Bool) (n i : ℕ) (out work : List ℕ) (tail : ℕ) : Type 0 where
  pub few : n < no_label
  pub inside : (a b : ℕ) → a < n → T (names a b) → b < n
  pub room : number_size * n ≤ length out
  pub wide : number_size * n ≤ length work
  pub labels : Numbers n out
  -- each label is the final one
  pub right : (k : ℕ) → k < n → Labelled out k → IsLabel names k (number_at out k)
  -- what a number below i reaches has one
  pub past : (m k : ℕ) → m < i → k < n → Reaches names m k → Labelled out k
  -- the queue is as long as the labels are many
  pub count : tail ≡ how_many (has_label out) n

-- every polygon that k names has a label
pub record Closed (names : ℕ → ℕ → Bool) (out : List ℕ) (k : ℕ) : Type 0 where
  pub all : (b : ℕ) → T (names k b) → Labelled out b

-- between two walks: nothing waits
pub record Swept (names : ℕ → ℕ → Bool) (n i : ℕ) (out work : List ℕ) (tail : ℕ) : Type 0 where
  pub walking : Walking names n i out work tail
  pub closed : (k : ℕ) → k < n → Labelled out k → Closed names out k

-- ---- what is done to that state
-- what a function that labels leaves as it was
pub record Frame (n : ℕ) (out out' work work' : List ℕ) : Type 0 where
  pub out_long : length out' ≡ length out
  pub work_long : length work' ≡ length work
  pub rest : drop (number_size * n) out' ≡ drop (number_size * n) out

-- k stands in the queue, from head on
pub record Queued (work : List ℕ) (head tail k : ℕ) : Type 0 where
  pub at : ℕ
  pub low : head ≤ at
  pub high : at < tail
  pub is : number_at work at ≡ k

-- labels stay, and what is new stands at the end of the queue, and i reaches it
pub record Later (names : ℕ → ℕ → Bool) (n i : ℕ) (out out' work work' : List ℕ) (tail tail' : ℕ) : Type 0 where
  pub frame : Frame n out out' work work'
  pub order : tail ≤ tail'
  pub kept : (k : ℕ) → Labelled out k → Labelled out' k
  pub same : (q : ℕ) → q < tail → number_at work' q ≡ number_at work q
  pub new : (k : ℕ) → k < n → Labelled out' k → Labelled out k ⊎ Queued work' tail tail' k
  pub reached : (q : ℕ) → tail ≤ q → q < tail' → Reaches names i (number_at work' q)

-- every polygon of a kind has a label then
pub record Spread (names : ℕ → ℕ → Bool) (n i : ℕ) (kind : ℕ → Type 0) (out out' work work' : List ℕ) (tail tail' : ℕ) : Type 0 where
  pub walking : Walking names n i out' work' tail'
  pub later : Later names n i out out' work work' tail tail'
  pub all : (e : ℕ) → kind e → Labelled out' e

-- ---- on a deck
-- e is a polygon, and one of the first j entries of vertex v's list
pub record Entry (deck : Deck) (v j e : ℕ) : Type 0 where
  pub at : ℕ
  pub there : at < j
  pub is : get_or (neighbours_of deck v) at 0 ≡ e
  pub polygon : e ≡ all_ones → ⊥

-- and of one of the lists of polygon k's first c vertices
pub record Named (deck : Deck) (k c e : ℕ) : Type 0 where
  pub corner : ℕ
  pub there : corner < c
  pub entry : Entry deck (get_or (corners_of deck k) corner 0) (length (list_of deck k corner)) e

-- what reading a vertex's list needs, and what it does
pub record ListReady (deck : Deck) (v i : ℕ) (out work : List ℕ) (tail : ℕ) : Type 0 where
  pub vertex_there : v < length deck.vertices
  pub start_there : i < length deck.polygons
  pub walking : Walking (names deck) (length deck.polygons) i out work tail
  pub reached : (e : ℕ) → Entry deck v (length (neighbours_of deck v)) e → Reaches (names deck) i e

abbrev pub ListRead : Deck → ℕ → ℕ → List ℕ → List ℕ → List ℕ → List ℕ → ℕ → ℕ → Type 0
ListRead deck v i out out' work work' tail tail' =
    Spread (names deck) (length deck.polygons) i (Entry deck v (length (neighbours_of deck v))) out out' work work' tail tail'

-- the lists of a polygon's vertices
pub record PolygonReady (deck : Deck) (k i : ℕ) (out work : List ℕ) (tail : ℕ) : Type 0 where
  pub polygon_there : k < length deck.polygons
  pub start_there : i < length deck.polygons
  pub walking : Walking (names deck) (length deck.polygons) i out work tail
  pub reached : Reaches (names deck) i k

abbrev pub PolygonRead : Deck → ℕ → ℕ → List ℕ → List ℕ → List ℕ → List ℕ → ℕ → ℕ → Type 0
PolygonRead deck k i out out' work work' tail tail' =
    Spread (names deck) (length deck.polygons) i (Named deck k (length (corners_of deck k))) out out' work work' tail tail'

-- the walk from polygon i
pub record WalkReady (deck : Deck) (i : ℕ) (out work : List ℕ) (tail : ℕ) : Type 0 where
  pub start_there : i < length deck.polygons
  pub swept : Swept (names deck) (length deck.polygons) i out work tail

pub record Walked (deck : Deck) (i : ℕ) (out out' work work' : List ℕ) (tail' : ℕ) : Type 0 where
  pub swept : Swept (names deck) (length deck.polygons) (i + 1) out' work' tail'
  pub frame : Frame (length deck.polygons) out out' work work'

-- all walks
pub record LabelReady (deck : Deck) (out work : List ℕ) : Type 0 where
  pub entries_inside : question19 deck ≡ true
  pub room : number_size * length deck.polygons ≤ length out
  pub wide : number_size * length deck.polygons ≤ length work

pub record LabelsPut (deck : Deck) (out out' work work' : List ℕ) : Type 0 where
  pub out_is : out' ≡ words_of (deck_labels deck) ++ drop (number_size * length deck.polygons) out
  pub work_is : work' ≡ replicate (length work) 0
