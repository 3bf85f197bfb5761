-- The kept lists of all decks in one array: for each deck three numbers, which say where its list stands, and after them the numbers of all lists.
use Rattle.std.specs.Prelude.{ℕ, ◌+◌, ◌*◌, ◌^◌, ◌≤◌, List, length, get_or, set, take, drop}
use Rattle.keeping.specs.declared.ListPlace.{ListPlace}

-- numbers that say where a deck's list stands, and those of 256 decks
abbrev pub list_size : ℕ
list_size = 3

abbrev pub lists_size : ℕ
lists_size = 768

-- numbers of the array for a step's own list
abbrev pub near_size : ℕ
near_size = 4096

abbrev pub list_at : List ℕ → ℕ → ListPlace
list_at array d =
    record { start = get_or array (list_size * d) 0; count = get_or array (list_size * d + 1) 0; rest = get_or array (list_size * d + 2) 0 }

unfoldable pub with_list : List ℕ → ℕ → ListPlace → List ℕ
with_list array d list =
    set (set (set array (list_size * d) list.start) (list_size * d + 1) list.count) (list_size * d + 2) list.rest

-- the list lies in the array, and its numbers there
abbrev pub LiesIn : List ℕ → ListPlace → Type 0
LiesIn array list = list.start + list.count ≤ length array

abbrev pub numbers_at : List ℕ → ListPlace → List ℕ
numbers_at array list = take list.count (drop list.start array)

-- an array with room for them, each of whose places has a number of 32 bits
pub record ListsRoom (array : List ℕ) : Type 0 where
  pub room : lists_size ≤ length array
  pub few : length array ≤ 2 ^ 31
