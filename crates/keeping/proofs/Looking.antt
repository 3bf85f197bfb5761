-- `first_hit` and `next_hit`: what their loops over the samples and over the polygons say at their start, in a turn and where they end.
use Prim.Native.Nat.{ℕ, zero, suc, ◌+◌, ◌-◌, ◌*◌, ◌^◌, ◌≤◌, ◌<◌}
use native.Mathlib.Omega.{arith}
use mathlib.Core.Path.{◌≡◌, refl, sym, ap, ◌∙◌, subst}
use mathlib.Core.Bool.{Bool, true, false}
use mathlib.Core.List.{List}
use lib.Dec.{ltb}
use lib.ListN.{length}
use lib.Ieee.{Float}
use borrow.Author.Tests.{ltb-true, ltb-false}
use Rattle.std.specs.Prelude.{Some, None}
use Rattle.geometry.specs.declared.Vec2.{Vec2}
use Rattle.ring.specs.Sample.{sample_of}
use Rattle.hits.specs.Candidates.{hit}
use Rattle.hits.specs.Hits.{polygon_hit, sample_hit}
use Rattle.hits.proofs.HitLoops.{polygon_hit_same, sample_hit_yes, sample_hit_no, sample_hit_none}
use Rattle.ship.specs.Model.{Deck}
use Rattle.search.specs.OnDeck.{passes_at, deck_turn, next_hit}
use Rattle.search.proofs.PolygonLoop.{NonePass, first_is, none_is}
use Rattle.keeping.specs.Kept.{sought_at, sought_count, KeptAt, RingKept}
use Rattle.keeping.proofs.SoughtLaws.{sought_end, sought_below, earlier_fails, later_fails}

-- ---- the loop over the polygons of a list: those from `from` on and before number j's do not pass
pub record Looked (deck : Deck) (numbers : List ℕ) (rest : ℕ) (q : Vec2) (from j : ℕ) : Type 0 where
  pub at : KeptAt deck numbers rest q
  pub none : NonePass deck q from (sought_at numbers rest j)

pub looked_all : {deck : Deck} {numbers : List ℕ} {rest : ℕ} {q : Vec2} (from : ℕ) → KeptAt deck numbers rest q → Looked deck numbers rest q from 0
looked_all from at = record { at = at; none = λ k past below. earlier_fails at k below }

module _ {deck : Deck} {numbers : List ℕ} {rest : ℕ} {q : Vec2} {from j : ℕ} (m : Looked deck numbers rest q from j) where
  -- where number j's does not pass, or is one before `from`
  more : (from ≤ sought_at numbers rest j → passes_at deck q (sought_at numbers rest j) ≡ false) → Looked deck numbers rest q from (j + 1)
  more fails = record { at = m.at; none = none' }
    where
      x : ℕ
      x = sought_at numbers rest j

      none' : NonePass deck q from (sought_at numbers rest (j + 1))
      none' k past below = go (ltb k x) refl (ltb x k) refl
        where
          go : (s : Bool) → ltb k x ≡ s → (t : Bool) → ltb x k ≡ t → passes_at deck q k ≡ false
          go true e t f = m.none k past (ltb-true k x e)
          go false e true f = later_fails m.at j k (ltb-true x k f) below
          go false e false f =
              let at : x ≡ k = omega (arith, ltb-false k x e, ltb-false x k f) in
              rw (← at) (fails (rw at past))

  module _ {k : ℕ} (is : k ≡ sought_at numbers rest j) where
    pub looked_before : k < from → Looked deck numbers rest q from (j + 1)
    looked_before h = more (λ l. let no : ⊥ = omega arith in absurd no)

    module _ {r : Bool} (test : r ≡ passes_at deck q k) where
      pub looked_more : r ≡ false → Looked deck numbers rest q from (j + 1)
      looked_more e = more (λ l. rw (← is) (sym test ∙ e))

      pub next_is : (i : ℕ) → from ≤ k → j < sought_count (length deck.polygons) numbers rest → r ≡ true → Some (hit i k) ≡ next_hit deck q i from
      next_is i l h e =
          first_is deck q i from k l (rw is (sought_below m.at.list j h)) (rw is m.none) (sym test ∙ e)

  pub next_none : (i : ℕ) → sought_count (length deck.polygons) numbers rest ≤ j → j ≤ sought_count (length deck.polygons) numbers rest → None ≡ next_hit deck q i from
  next_none i h l =
      let at : j ≡ sought_count (length deck.polygons) numbers rest = omega arith in
      let all : sought_at numbers rest j ≡ length deck.polygons = ap (sought_at numbers rest) at ∙ sought_end m.at.list in
      none_is deck q i from (subst (NonePass deck q from) all m.none)

-- ---- what the calls in the loops ask
module _ {deck : Deck} {n : ℕ} (size : n ≡ length deck.polygons) {numbers : List ℕ} {rest : ℕ} where
  module _ {q : Vec2} (at : KeptAt deck numbers rest q) where
    pub list_few : length numbers ≤ rest
    list_few = at.list.few

    pub list_there : rest ≤ n
    list_there = omega (arith, at.list.there, size)

    module _ {count j : ℕ} (all : count ≡ sought_count n numbers rest) (l : j < count) where
      pub number_fits : n < 2 ^ 24 → rest + j < 2 ^ 63
      number_fits few = omega (arith, list_few, list_there)

      pub number_there : {k : ℕ} → k ≡ sought_at numbers rest j → k < length deck.polygons
      number_there is = omega (arith, sought_below at.list j (rw (← size, ← all) l))

  -- ---- `next_hit`
  module _ {q : Vec2} {from j count : ℕ} (m : Looked deck numbers rest q from j) (all : count ≡ sought_count n numbers rest) where
    in_deck : count ≡ sought_count (length deck.polygons) numbers rest
    in_deck = rw (← size) all

    pub found_next : {i k : ℕ} {r : Bool} → j < count → k ≡ sought_at numbers rest j → from ≤ k → r ≡ passes_at deck q k → r ≡ true
        → Some (hit i k) ≡ next_hit deck q i from
    found_next {i} l is h test e = next_is m is test i h (rw (← in_deck) l) e

    pub found_none : (i : ℕ) → count ≤ j → j ≤ count → None ≡ next_hit deck q i from
    found_none i h l = next_none m i (rw (← in_deck) h) (rw (← in_deck) l)

pub ruleset nexts = (list_few, list_there, number_fits, number_there, looked_all, looked_before, looked_more, found_next, found_none)

-- ---- the samples
-- whether polygon k passes at sample i
abbrev passes_at_sample : Deck → Vec2 → Float → ℕ → ℕ → ℕ → Bool
passes_at_sample deck p reach s i k = passes_at deck (sample_of p reach s i) k

-- no sample before i hit, so the deck's turn is that of the samples from i on
pub record SamplesLeft (deck : Deck) (p : Vec2) (reach : Float) (s i : ℕ) : Type 0 where
  pub same : deck_turn deck p reach s ≡ sample_hit (passes_at_sample deck p reach s) (length deck.polygons) i (10 * s + 1 - i)

pub samples_all : {deck : Deck} {p : Vec2} {reach : Float} {s : ℕ} → SamplesLeft deck p reach s 0
unfolding deck_turn
samples_all {s = s} = record { same = let e : 10 * s + 1 - 0 ≡ 10 * s + 1 = omega arith in rw e }

-- the hit of a sample, over all its polygons
sample_hit_lem : (deck : Deck) (p : Vec2) (reach : Float) (s i : ℕ) {q : Vec2} → q ≡ sample_of p reach s i
    → polygon_hit (passes_at_sample deck p reach s) i 0 (length deck.polygons) ≡ next_hit deck q i 0
unfolding next_hit
sample_hit_lem deck p reach s i at =
    let e : length deck.polygons - 0 ≡ length deck.polygons = omega arith in
    rw e (polygon_hit_same _ _ i (λ k. rw at) 0 (length deck.polygons))

module _ {deck : Deck} {p : Vec2} {reach : Float} {s i : ℕ} (l : SamplesLeft deck p reach s i) where
  pub sample_looked : {numbers : List ℕ} {rest : ℕ} {q : Vec2} → RingKept deck numbers rest p reach s → q ≡ sample_of p reach s i → Looked deck numbers rest q 0 0
  sample_looked ring at = looked_all 0 (rw at (ring.at i))

  module _ (b : i < 10 * s + 1) {q : Vec2} (at : q ≡ sample_of p reach s i) where
    hit_ends : {k : ℕ} → Some (hit i k) ≡ next_hit deck q i 0 → Some (hit i k) ≡ deck_turn deck p reach s
    hit_ends {k} e =
        sym (l.same ∙ sample_hit_yes (passes_at_sample deck p reach s) (length deck.polygons) i (10 * s + 1) (hit i k) b (sample_hit_lem deck p reach s i at ∙ sym e))

    miss_goes_on : None ≡ next_hit deck q i 0 → SamplesLeft deck p reach s (i + 1)
    miss_goes_on e =
        record { same = l.same ∙ sample_hit_no (passes_at_sample deck p reach s) (length deck.polygons) i (10 * s + 1) b (sample_hit_lem deck p reach s i at ∙ sym e) }

  pub all_missed : 10 * s + 1 ≤ i → None ≡ deck_turn deck p reach s
  all_missed e = sym (l.same ∙ sample_hit_none (passes_at_sample deck p reach s) (length deck.polygons) i (10 * s + 1) e)

module _ {deck : Deck} {n : ℕ} (size : n ≡ length deck.polygons) {numbers : List ℕ} {rest : ℕ} {p : Vec2} {reach : Float} {s : ℕ}
    (ring : RingKept deck numbers rest p reach s) where
  pub ring_few : length numbers ≤ rest
  ring_few = list_few size (ring.at 0)

  pub ring_rest : rest ≤ n
  ring_rest = list_there size (ring.at 0)

module _ {deck : Deck} {n : ℕ} (size : n ≡ length deck.polygons) {numbers : List ℕ} {rest : ℕ} {count : ℕ} (all : count ≡ sought_count n numbers rest) where
  module _ {p : Vec2} {reach : Float} {s : ℕ} (ring : RingKept deck numbers rest p reach s) where
    -- ---- what the calls before and in the loops ask
    pub ring_fits : {j : ℕ} → j < count → n < 2 ^ 24 → rest + j < 2 ^ 63
    ring_fits l few = number_fits size (ring.at 0) all l few

    pub ring_there : {j k : ℕ} → j < count → k ≡ sought_at numbers rest j → k < length deck.polygons
    ring_there l is = number_there size (ring.at 0) all l is

    -- ---- nothing to look at: every sample misses
    pub turn_none : count ≡ 0 → None ≡ deck_turn deck p reach s
    turn_none none = go (10 * s + 1) 0 (omega arith) samples_all
      where
        empty : sought_count (length deck.polygons) numbers rest ≡ 0
        empty = rw (← size) (sym all ∙ none)

        misses : (i : ℕ) → None ≡ next_hit deck (sample_of p reach s i) i 0
        misses i = next_none (looked_all 0 (ring.at i)) i (omega (arith, empty)) (omega arith)

        go : (d i : ℕ) → i + d ≡ 10 * s + 1 → SamplesLeft deck p reach s i → None ≡ deck_turn deck p reach s
        go zero i e l = all_missed l (omega arith)
        go (suc d) i e l = go d (i + 1) (omega arith) (miss_goes_on l (omega arith) refl (misses i))

  -- ---- the loops
  module _ {p q : Vec2} {reach : Float} {s i j : ℕ} (l : SamplesLeft deck p reach s i) (under : i < 10 * s + 1) (at : q ≡ sample_of p reach s i)
      (m : Looked deck numbers rest q 0 j) where
    pub turn_hit : {k : ℕ} {r : Bool} → j < count → k ≡ sought_at numbers rest j → r ≡ passes_at deck q k → r ≡ true
        → Some (hit i k) ≡ deck_turn deck p reach s
    turn_hit h is test e = hit_ends l under at (found_next size m all h is (omega arith) test e)

    module _ (h : count ≤ j) (le : j ≤ count) where
      pub samples_more : SamplesLeft deck p reach s (i + 1)
      samples_more = miss_goes_on l under at (found_none size m all i h le)

      pub turn_missed : 10 * s + 1 ≤ i + 1 → None ≡ deck_turn deck p reach s
      turn_missed e = all_missed samples_more e

pub ruleset turns = (ring_few, ring_rest, ring_fits, ring_there, turn_none, samples_all, sample_looked, looked_more, turn_hit, samples_more, turn_missed)
