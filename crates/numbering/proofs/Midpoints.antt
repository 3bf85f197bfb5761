-- The count with no list: how often to double, the midpoints of a chain, the earlier numbers that may reach one, and those that stay.
use Prim.Native.Nat.{ℕ, zero, suc, ◌+◌, ◌-◌, ◌^◌, ◌≤◌, ◌<◌}
use native.Mathlib.Omega.{arith}
use mathlib.Core.Path.{◌≡◌, refl, sym, ap, ◌∙◌}
use mathlib.Core.Bool.{Bool, true, false, not, cond}
use mathlib.Core.List.{List, [], ◌∷◌, ◌++◌}
use lib.Dec.{T}
use lib.ListN.{length, get_or}
use lib.Count.{count_leading_zeros, leading_length}
use borrow.Author.Tests.{not-true, not-false}
use Rattle.std.specs.Prelude.{filter, Ok}
use Rattle.std.specs.List.{range_with_len}
use Rattle.words.specs.Rows.{has, collect}
use Rattle.words.proofs.TableRows.{Sought, sought_all, sought_none, sought_more, sought_stop}
use Rattle.ship.specs.Decode.{decode}
use Rattle.ship.specs.Questions.{first_no}
use Rattle.survey.specs.declared.Seat.{Seat}
use Rattle.survey.specs.Search.{candidates}
use Rattle.touching.specs.Touching.{touches, PolygonThere}
use Rattle.touching.specs.Reach.{drops, merged}
use Rattle.touching.proofs.Reaching.{has_at, within_start}
use Rattle.touching.proofs.Doubling.{through, twice, one_hop, enough_hops}
use Rattle.walking.specs.Sees.{seen_by}
use Rattle.walking.specs.Lists.{WalkReady}
use Rattle.walking.proofs.Walks.{walk_passed}
use Rattle.numbering.specs.Numbers.{step_numbers, step_reach, step_drops, step_merged}
use Rattle.numbering.proofs.Numbers.{numbers_there}
use Rattle.numbering.proofs.NumberLoop.{numbers_length}

-- ---- `doublings`
pub doubled : {n : ℕ} → n < 2 ^ 64 → n ≤ 2 ^ (64 - count_leading_zeros 64 n)
doubled {n} small =
    let l = leading_length 64 n small in
    let e : 64 - count_leading_zeros 64 n ≡ l.0 = omega (arith, l.1) in
    rw e (omega (arith, l.2))

-- ---- `reach_within`: none of the first m numbers is a midpoint
pub record Tried (file blocked : List ℕ) (seat : Seat) (s k a b m : ℕ) : Type 0 where
  pub sought : Sought (through (touches (decode file)) (step_numbers file blocked seat s) (k - 1) a b) (length (step_numbers file blocked seat s)) m

pub tried_all : {file blocked : List ℕ} {seat : Seat} {s k a b : ℕ} → Tried file blocked seat s k a b 0
tried_all = record { sought = sought_all }

-- a passed file, the count of a step's numbers, and two of them
pub record ReachReady (file blocked : List ℕ) (seat : Seat) (s count a b : ℕ) : Type 0 where
  pub passed : first_no file ≡ Ok tt
  pub counts : count ≡ length (step_numbers file blocked seat s)
  pub start : T (has (step_numbers file blocked seat s) a)
  pub end : T (has (step_numbers file blocked seat s) b)

pub reach_ready : {file blocked : List ℕ} {seat : Seat} {array : List ℕ} {s count a b : ℕ} → WalkReady file blocked seat array
    → count ≡ length (candidates (seen_by file blocked seat) s)
    → T (has (step_numbers file blocked seat s) a) × T (has (step_numbers file blocked seat s) b) → ReachReady file blocked seat s count a b
reach_ready {file} {blocked} {seat = seat} {s = s} ready counts ends =
    record { passed = walk_passed ready; counts = counts ∙ sym (numbers_length file blocked seat s); start = ends.0; end = ends.1 }

module _ {file blocked : List ℕ} {seat : Seat} {s count a b : ℕ} (ready : ReachReady file blocked seat s count a b) where
  pub reach_touch : PolygonThere file a
  reach_touch = numbers_there file blocked seat s a ready.passed ready.start

  pub reach_same : (k : ℕ) → a ≡ b → true ≡ step_reach file blocked seat s (2 ^ k) a b
  reach_same k e = rw e (sym (within_start (touches (decode file)) (step_numbers file blocked seat s) (2 ^ k) b))

  pub reach_hop : (k : ℕ) {r : Bool} → (a ≡ b → ⊥) → k ≡ 0 → r ≡ touches (decode file) a b → r ≡ step_reach file blocked seat s (2 ^ k) a b
  reach_hop k d z e = e ∙ rw z (sym (one_hop (touches (decode file)) (step_numbers file blocked seat s) a b ready.start d))

  module _ {m c : ℕ} (h : m < count) (is : c ≡ get_or (step_numbers file blocked seat s) m 0) where
    pub midpoint : T (has (step_numbers file blocked seat s) c)
    midpoint = rw is (has_at (step_numbers file blocked seat s) m (omega (arith, ready.counts)))

  -- by halves
  by_halves : (k : ℕ) → (k ≡ 0 → ⊥) → step_reach file blocked seat s (2 ^ k) a b ≡ step_reach file blocked seat s (2 ^ suc (k - 1)) a b
  by_halves k z = let e : k ≡ suc (k - 1) = omega arith in ap (λ (n : ℕ). step_reach file blocked seat s (2 ^ n) a b) e

  module _ {k m : ℕ} (t : Tried file blocked seat s k a b m) where
    pub tried_none : count ≤ m → (k ≡ 0 → ⊥) → false ≡ step_reach file blocked seat s (2 ^ k) a b
    tried_none h z =
        sought_none t.sought (omega (arith, ready.counts))
        ∙ sym (by_halves k z ∙ twice (touches (decode file)) (step_numbers file blocked seat s) (k - 1) a b ready.end)

    module _ {c : ℕ} (h : m < count) (is : c ≡ get_or (step_numbers file blocked seat s) m 0) {r : Bool} (first : r ≡ step_reach file blocked seat s (2 ^ (k - 1)) a c) where
      below : m < length (step_numbers file blocked seat s)
      below = omega (arith, ready.counts)

      pub tried_first : not r ≡ true → Tried file blocked seat s k a b (m + 1)
      tried_first f =
          let e : step_reach file blocked seat s (2 ^ (k - 1)) a (get_or (step_numbers file blocked seat s) m 0) ≡ false = rw (← is) (sym first ∙ not-true r f) in
          record { sought = sought_more t.sought below refl (rw e) }

      module _ (yes-first : not r ≡ false) {q : Bool} (second : q ≡ step_reach file blocked seat s (2 ^ (k - 1)) c b) where
        both : through (touches (decode file)) (step_numbers file blocked seat s) (k - 1) a b m ≡ q
        both =
            let e : step_reach file blocked seat s (2 ^ (k - 1)) a (get_or (step_numbers file blocked seat s) m 0) ≡ true = rw (← is) (sym first ∙ not-false r yes-first) in
            let f : step_reach file blocked seat s (2 ^ (k - 1)) (get_or (step_numbers file blocked seat s) m 0) b ≡ q = rw (← is) (sym second) in
            rw (e, f)

        pub tried_second : q ≡ false → Tried file blocked seat s k a b (m + 1)
        tried_second f = record { sought = sought_more t.sought below refl (both ∙ f) }

        pub tried_through : q ≡ true → (k ≡ 0 → ⊥) → true ≡ step_reach file blocked seat s (2 ^ k) a b
        tried_through f z =
            sought_stop t.sought below refl (both ∙ f)
            ∙ sym (by_halves k z ∙ twice (touches (decode file)) (step_numbers file blocked seat s) (k - 1) a b ready.end)

pub ruleset halves = (reach_touch, reach_same, reach_hop, midpoint, tried_all, tried_none, tried_first, tried_second, tried_through)

-- ---- `drops_out`: none of the first i numbers reaches number j
pub record Unreached (file blocked : List ℕ) (seat : Seat) (s j i : ℕ) : Type 0 where
  pub sought : Sought (λ i. step_reach file blocked seat s (length (step_numbers file blocked seat s)) (get_or (step_numbers file blocked seat s) i 0) (get_or (step_numbers file blocked seat s) j 0)) j i

pub unreached_all : {file blocked : List ℕ} {seat : Seat} {s j : ℕ} → Unreached file blocked seat s j 0
unreached_all = record { sought = sought_all }

-- the count of a step's numbers, number j of them, and 2^k hops, which are as many as they are
pub record DropReady (file blocked : List ℕ) (seat : Seat) (s count k j : ℕ) : Type 0 where
  pub counts : count ≡ length (step_numbers file blocked seat s)
  pub enough : count ≤ 2 ^ k
  pub below : j < count

pub drop_ready : {file blocked : List ℕ} {seat : Seat} {s count k j : ℕ} → count ≡ length (candidates (seen_by file blocked seat) s) → (count ≤ 2 ^ k) × (j < count)
    → DropReady file blocked seat s count k j
drop_ready {file} {blocked} {seat} {s} counts h =
    record { counts = counts ∙ sym (numbers_length file blocked seat s); enough = h.0; below = h.1 }

module _ {file blocked : List ℕ} {seat : Seat} {s count k j b : ℕ} (ready : DropReady file blocked seat s count k j)
    (to : b ≡ get_or (step_numbers file blocked seat s) j 0) where
  of_step : (i : ℕ) → i ≤ j → T (has (step_numbers file blocked seat s) (get_or (step_numbers file blocked seat s) i 0))
  of_step i h = has_at (step_numbers file blocked seat s) i (omega (arith, ready.below, ready.counts))

  pub drop_end : T (has (step_numbers file blocked seat s) b)
  drop_end = rw to (of_step j (omega arith))

  module _ {i a : ℕ} (h : i < j) (from : a ≡ get_or (step_numbers file blocked seat s) i 0) where
    pub drop_start : T (has (step_numbers file blocked seat s) a)
    drop_start = rw from (of_step i (omega arith))

    module _ (t : Unreached file blocked seat s j i) {r : Bool} (asked : r ≡ step_reach file blocked seat s (2 ^ k) a b) where
      all_hops : r ≡ step_reach file blocked seat s (length (step_numbers file blocked seat s)) (get_or (step_numbers file blocked seat s) i 0) (get_or (step_numbers file blocked seat s) j 0)
      all_hops =
          asked
          ∙ enough_hops (touches (decode file)) (step_numbers file blocked seat s) k a b drop_start drop_end (omega (arith, ready.enough, ready.counts))
          ∙ rw (from, to)

      pub unreached_more : r ≡ false → Unreached file blocked seat s j (i + 1)
      unreached_more f = record { sought = sought_more t.sought h all_hops f }

      pub unreached_found : r ≡ true → true ≡ step_drops file blocked seat s j
      unfolding drops
      unreached_found f = sought_stop t.sought h all_hops f

pub unreached_none : {file blocked : List ℕ} {seat : Seat} {s j i : ℕ} → Unreached file blocked seat s j i → j ≤ i → false ≡ step_drops file blocked seat s j
unfolding drops
unreached_none t h = sought_none t.sought h

pub ruleset earlier = (drop_start, drop_end, unreached_all, unreached_more, unreached_found, unreached_none)

-- ---- `count_by_midpoints`: the numbers that stay, counted over their places
module _ (file blocked : List ℕ) (seat : Seat) (s : ℕ) where
  abbrev pub stays : ℕ → Bool
  stays j = not (step_drops file blocked seat s j)

  abbrev number : ℕ → List ℕ
  number j = get_or (step_numbers file blocked seat s) j 0 ∷ []

  stay_count : (n i : ℕ) → length (collect stays number i n) ≡ length (filter stays (range_with_len i n))
  unfolding collect
  stay_count zero i = refl
  stay_count (suc n) i = go (stays i) (stay_count n (i + 1))
    where
      go : (t : Bool) → length (collect stays number (i + 1) n) ≡ length (filter stays (range_with_len (i + 1) n))
          → length (cond t (number i ++ collect stays number (i + 1) n) (collect stays number (i + 1) n))
          ≡ length (cond t (i ∷ filter stays (range_with_len (i + 1) n)) (filter stays (range_with_len (i + 1) n)))
      go true h = rw h
      go false h = h

  pub merged_count : length (filter stays (range_with_len 0 (length (step_numbers file blocked seat s)))) ≡ length (step_merged file blocked seat s)
  unfolding merged
  merged_count = sym (stay_count (length (step_numbers file blocked seat s)) 0)
