-- `first_of_edges`: what its loop says at its start, in a turn, where it stops and at its end. At and Test are what its calls may give.
use Prim.Native.Nat.{ℕ, ◌+◌, ◌≤◌, ◌<◌}
use native.Mathlib.Omega.{arith}
use native.Mathlib.Numerals.{add-one}
use mathlib.Core.Path.{◌≡◌, refl, sym, ◌∙◌}
use mathlib.Core.List.{List, ◌∷◌, map}
use lib.ListN.{length, get_or, drop, drop_of_length-le, get_or-map}
use lib.Seq.{drop-cons}
use Rattle.std.proofs.lemmas.Option.{slice_get-get_or, slice_get_within, get_or_from_slice_get}
use Rattle.std.specs.Prelude.{Option, Some, None, slice_get}
use Rattle.std.specs.Option.{option_or}
use Rattle.geometry.specs.EdgeWalk.{first_from, first_of_edges, GivesItems, Computes}

module _ {A R : Type 0} (At : ℕ → A → Type 0) (Test : A → A → Option R → Type 0) (count : ℕ) where
  -- for each list that `at` gives, and each function that `test` computes
  abbrev Holds : (List A → (A → A → Option R) → Type 0) → Type 0
  Holds P = (items : List A) (says : A → A → Option R) → length items ≡ count → GivesItems At items → Computes At count Test says → P items says

  -- no edge before vertex j gave an answer, so the answer is that of the edges from a, the vertex before it, on
  pub record Walked (first a : A) (j : ℕ) : Type 0 where
    pub i : ℕ
    pub next : j ≡ i + 1
    pub small : j ≤ count
    pub first_at : At 0 first
    pub a_at : At i a
    pub same : Holds (λ items says. first_of_edges says items ≡ first_from says first a (drop j items))

-- from item j on, a list begins with it
pub from_item : {A : Type 0} (l : List A) (j : ℕ) {r : A} → slice_get l j ≡ Some r → drop j l ≡ r ∷ drop (j + 1) l
from_item l j {r} e = rw add-one (rw (get_or_from_slice_get l j r r e) at (drop-cons l j r (slice_get_within l j r e)))

module _ {A R : Type 0} {At : ℕ → A → Type 0} {Test : A → A → Option R → Type 0} {count : ℕ} where
  pub walked_all : {first : A} → 0 < count → At 0 first → Walked At Test count first first 1
  unfolding first_of_edges
  walked_all {first} h e =
      record { i = 0; next = refl; small = omega arith; first_at = e; a_at = e; same = λ items says n at test. rw (from_item items 0 (at 0 first (rw n h) e)) }

  module _ {first a : A} {j : ℕ} (l : Walked At Test count first a j) where
    module _ {b : A} {r : Option R} (h : j < count) (read : At j b) (t : Test a b r) where
      edge : Holds At Test count (λ items says. first_of_edges says items ≡ option_or r (first_from says first b (drop (j + 1) items)))
      unfolding first_from
      edge items says n at test =
          let e = l.next in
          l.same items says n at test ∙ rw (from_item items j (at j b (rw n h) read), sym (test l.i j a b r (omega arith) h l.a_at read t))

      pub walked_more : r ≡ None → Walked At Test count first b (j + 1)
      walked_more e = record { i = j; next = refl; small = omega arith; first_at = l.first_at; a_at = read; same = rw e at edge }

      pub walked_stop : {x : R} → r ≡ Some x → Holds At Test count (λ items says. Some x ≡ first_of_edges says items)
      walked_stop e items says n at test = sym (rw e at (edge items says n at test))

    pub walked_last : {r : Option R} → count ≤ j → Test a first r → Holds At Test count (λ items says. r ≡ first_of_edges says items)
    unfolding first_from
    walked_last {r} h t items says n at test =
        let e = l.next in
        let small = l.small in
        let last : r ≡ says a first = test l.i 0 a first r (omega arith) (omega arith) l.a_at l.first_at t in
        sym (l.same items says n at test ∙ rw (drop_of_length-le items {i = j} (rw n h), sym last))

pub ruleset walking = (walked_all, walked_more)

-- ---- lists that a call gives item by item
pub item_at : (l : List ℕ) {j r : ℕ} → j < length l → r ≡ get_or l j 0 → slice_get l j ≡ Some r
item_at l {j} h e = rw e (slice_get-get_or l j 0 h)

pub made_at : {A : Type 0} (f : ℕ → A) (l : List ℕ) {j : ℕ} {r : A} → j < length (map f l) → r ≡ f (get_or l j 0)
    → slice_get (map f l) j ≡ Some r
made_at f l {j} h e = rw (e, ← get_or-map f l j 0) (slice_get-get_or (map f l) j (f 0) h)
