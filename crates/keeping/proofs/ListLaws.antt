-- The lists of an array: what is read of one that was written, of the others, and of the numbers behind them.
use Prim.Native.Nat.{ℕ, ◌+◌, ◌*◌, ◌≤◌, ◌<◌}
use native.Mathlib.Omega.{arith}
use mathlib.Core.Path.{◌≡◌, refl, sym, ap, ◌∙◌}
use mathlib.Core.List.{List}
use lib.ListN.{length, get_or, set, take, drop, length-set}
use lib.Seq.{get_or-set_same, get_or-set_other}
use Rattle.std.proofs.lemmas.List.{drop-set-lt, drop-take, get_or-take, length-take-le, take-append-drop, take-append-le}
use Rattle.keeping.specs.declared.ListPlace.{ListPlace}
use Rattle.keeping.specs.Lists.{list_size, lists_size, list_at, numbers_at, with_list, ListsRoom}

-- ---- what is read of an array in which deck d's list was written
module _ (array : List ℕ) (d : ℕ) (list : ListPlace) where
  pub with_long : length (with_list array d list) ≡ length array
  unfolding with_list
  with_long = simp length-set

  other_place : (i : ℕ) → (i ≡ list_size * d → ⊥) → (i ≡ list_size * d + 1 → ⊥) → (i ≡ list_size * d + 2 → ⊥)
      → get_or (with_list array d list) i 0 ≡ get_or array i 0
  unfolding with_list
  other_place i x y z =
      get_or-set_other (set (set array (list_size * d) list.start) (list_size * d + 1) list.count) (list_size * d + 2) i list.rest 0 z
      ∙ get_or-set_other (set array (list_size * d) list.start) (list_size * d + 1) i list.count 0 y
      ∙ get_or-set_other array (list_size * d) i list.start 0 x

  module _ (few : d < 256) where
    -- the numbers of a list stand behind
    pub numbers_behind : (other : ListPlace) → lists_size ≤ other.start → numbers_at (with_list array d list) other ≡ numbers_at array other
    unfolding with_list
    numbers_behind other h =
        let a : List ℕ = set array (list_size * d) list.start in
        let b : List ℕ = set a (list_size * d + 1) list.count in
        ap (take other.count) (
        drop-set-lt other.start b (list_size * d + 2) list.rest (omega arith)
        ∙ drop-set-lt other.start a (list_size * d + 1) list.count (omega arith)
        ∙ drop-set-lt other.start array (list_size * d) list.start (omega arith)
        )

    pub list_here : lists_size ≤ length array → list_at (with_list array d list) d ≡ list
    unfolding with_list
    list_here room =
        let a : List ℕ = set array (list_size * d) list.start in
        let b : List ℕ = set a (list_size * d + 1) list.count in
        let start : get_or (set b (list_size * d + 2) list.rest) (list_size * d) 0 ≡ list.start =
        get_or-set_other b (list_size * d + 2) (list_size * d) list.rest 0 (λ e. omega arith)
        ∙ get_or-set_other a (list_size * d + 1) (list_size * d) list.count 0 (λ e. omega arith)
        ∙ get_or-set_same array (list_size * d) list.start 0 (omega arith) in
        let count : get_or (set b (list_size * d + 2) list.rest) (list_size * d + 1) 0 ≡ list.count =
        get_or-set_other b (list_size * d + 2) (list_size * d + 1) list.rest 0 (λ e. omega arith)
        ∙ get_or-set_same a (list_size * d + 1) list.count 0 (omega (arith, length-set array (list_size * d) list.start)) in
        let rest : get_or (set b (list_size * d + 2) list.rest) (list_size * d + 2) 0 ≡ list.rest =
        get_or-set_same b (list_size * d + 2) list.rest 0
        (omega (arith, length-set array (list_size * d) list.start, length-set a (list_size * d + 1) list.count)) in
        rw (start, count, rest)

  pub list_before : (e : ℕ) → e < d → list_at (with_list array d list) e ≡ list_at array e
  list_before e h =
      rw (
        other_place (list_size * e) (λ z. omega arith) (λ z. omega arith) (λ z. omega arith),
        other_place (list_size * e + 1) (λ z. omega arith) (λ z. omega arith) (λ z. omega arith),
        other_place (list_size * e + 2) (λ z. omega arith) (λ z. omega arith) (λ z. omega arith),
      )

-- ---- two arrays that are equal before `at`: the lists and the numbers that stand there
module _ (array array' : List ℕ) {at : ℕ} (inside : at ≤ length array) (inside' : at ≤ length array') (same : take at array' ≡ take at array) where
  same_place : (i : ℕ) → i < at → get_or array' i 0 ≡ get_or array i 0
  same_place i h =
      sym (get_or-take at array' i 0 h) ∙ ap (λ (front : List ℕ). get_or front i 0) same ∙ get_or-take at array i 0 h

  pub same_list : (e : ℕ) → list_size * e + 2 < at → list_at array' e ≡ list_at array e
  same_list e h =
      rw (same_place (list_size * e) (omega arith), same_place (list_size * e + 1) (omega arith), same_place (list_size * e + 2) (omega arith))

  pub same_numbers : (list : ListPlace) → list.start + list.count ≤ at → numbers_at array' list ≡ numbers_at array list
  same_numbers list h = sym (front array' inside') ∙ ap (λ (l : List ℕ). drop list.start (take (list.start + list.count) l)) same ∙ front array inside
    where
      front : (l : List ℕ) → at ≤ length l → drop list.start (take (list.start + list.count) (take at l)) ≡ numbers_at l list
      front l in_l =
          let long = length-take-le at l in_l in
          let whole = take-append-drop at l in
          let shorter = take-append-le (list.start + list.count) (take at l) (drop at l) (omega (arith, long)) in
          ap (drop list.start) (sym shorter ∙ ap (take (list.start + list.count)) whole) ∙ drop-take list.start list.count l

-- ---- two arrays that a loop lends, the one for the lists and the one for a step's own: they keep their lengths
pub record Lent (kept₀ kept near₀ near : List ℕ) : Type 0 where
  pub room : ListsRoom kept
  pub kept_long : length kept ≡ length kept₀
  pub near_long : length near ≡ length near₀

pub lent_all : {kept near : List ℕ} → ListsRoom kept → Lent kept kept near near
lent_all r = record { room = r; kept_long = refl; near_long = refl }

pub lent_more : {kept₀ kept kept' near₀ near near' : List ℕ} → Lent kept₀ kept near₀ near → length kept' ≡ length kept → length near' ≡ length near
    → Lent kept₀ kept' near₀ near'
lent_more l k n =
    record {
      room = record { room = omega (arith, l.room.room); few = omega (arith, l.room.few) };
      kept_long = k ∙ l.kept_long;
      near_long = n ∙ l.near_long;
    }

module _ {kept₀ kept near₀ near : List ℕ} (l : Lent kept₀ kept near₀ near) where
  pub lent_room : ListsRoom kept
  lent_room = l.room

  pub lent_kept : length kept ≡ length kept₀
  lent_kept = l.kept_long

  pub lent_near : length near ≡ length near₀
  lent_near = l.near_long

pub ruleset lent = (lent_all, lent_more, lent_room, lent_kept, lent_near)
