-- The walk over a polygon's edges: from each vertex to the next one, in list order, and then from the last to the first.
use Rattle.std.specs.Prelude.{ℕ, ◌≡◌, ◌<◌, List, [], ◌∷◌, length, slice_get, Option, Some, None}
use Rattle.std.specs.Option.{option_or}

-- the first answer of the edges from the vertex a on: to each of the vertices that are left, and then to the first
unfoldable pub first_from : {A R : Type 0} → (A → A → Option R) → A → A → List A → Option R
first_from says first a [] = says a first
first_from says first a (b ∷ rest) = option_or (says a b) (first_from says first b rest)

unfoldable pub first_of_edges : {A R : Type 0} → (A → A → Option R) → List A → Option R
first_of_edges says [] = None
first_of_edges says (a ∷ rest) = first_from says a a rest

-- whatever the call for number j may give is the list's item j
abbrev pub GivesItems : {A : Type 0} → (ℕ → A → Type 0) → List A → Type 0
GivesItems At items = (j : ℕ) (r : _) → j < length items → At j r → slice_get items j ≡ Some r

-- whatever the call for two of the vertices may give is what the function says
abbrev pub Computes : {A R : Type 0} → (ℕ → A → Type 0) → ℕ → (A → A → Option R → Type 0) → (A → A → Option R) → Type 0
Computes At count Test says = (i j : ℕ) (a b : _) (r : _) → i < count → j < count → At i a → At j b → Test a b r → r ≡ says a b
