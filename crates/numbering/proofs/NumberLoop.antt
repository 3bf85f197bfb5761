-- The walk over the numbers of a step: where it came to, and that they are written one after the other.
use Prim.Native.Nat.{ℕ, ◌+◌, ◌*◌, ◌≤◌, ◌<◌}
use native.Mathlib.Omega.{arith}
use mathlib.Core.Path.{◌≡◌, sym, ap, ◌∙◌}
use mathlib.Core.List.{List}
use mir.Syntax.{w64}
use mir.Val.{Fits}
use lib.ListN.{length, get_or, length-map, get_or-eq_default, get_or-map}
use Rattle.words.specs.Bytes.{bytes4, words_of, splice}
use Rattle.words.proofs.Writing.{Rest, rest_all, rest_more, rest_none, length_bytes4}
use Rattle.hits.specs.declared.Candidate.{Candidate}
use Rattle.ship.specs.Layout.{number_size}
use Rattle.ship.specs.Packed.{packed_of}
use Rattle.ship.specs.Questions.{first_no}
use Rattle.survey.specs.declared.Seat.{Seat}
use Rattle.survey.specs.Search.{candidates}
use Rattle.walking.specs.declared.Next.{Next}
use Rattle.walking.specs.declared.Next.TheVariants.{Reached, Ended}
use Rattle.walking.specs.Sees.{seen_by}
use Rattle.walking.specs.Lists.{WalkReady}
use Rattle.walking.specs.Walk.{WalkedStep, WalkedAfter}
use Rattle.walking.proofs.ShownLaws.{few_candidates}
use Rattle.walking.proofs.Passing.{nowhere, Passing, passing_all, passing_ended, passing_below, passing_here, passing_more, passing}
use Rattle.numbering.specs.Numbers.{packed_candidate, step_numbers}
use Rattle.std.specs.Prelude.{Ok}

pub numbers_length : (file blocked : List ℕ) (seat : Seat) (s : ℕ) → length (step_numbers file blocked seat s) ≡ length (candidates (seen_by file blocked seat) s)
unfolding step_numbers
numbers_length file blocked seat s = length-map (candidates (seen_by file blocked seat) s) packed_candidate

pub few_numbers : (file blocked : List ℕ) (seat : Seat) (s : ℕ) → first_no file ≡ Ok tt → length (step_numbers file blocked seat s) ≤ 4294967040
few_numbers file blocked seat s passed = omega (arith, numbers_length file blocked seat s, few_candidates file blocked seat s passed)

-- ---- the walk passed the first n candidates: their numbers
module _ {file blocked : List ℕ} {seat : Seat} {s n : ℕ} {next : Next} (h : Passing file blocked seat s n next) where
  numbers_ended : {m : ℕ} → next ≡ Ended m → length (step_numbers file blocked seat s) ≤ n
  numbers_ended e = omega (arith, passing_ended h e, numbers_length file blocked seat s)

  module _ {c : Candidate} {m : ℕ} (e : next ≡ Reached c m) where
    numbers_below : n < length (step_numbers file blocked seat s)
    numbers_below = omega (arith, passing_below h e, numbers_length file blocked seat s)

    number_here : {number : ℕ} → number ≡ packed_of c.deck c.polygon → number ≡ get_or (step_numbers file blocked seat s) n 0
    unfolding step_numbers
    number_here p =
        p ∙ ap packed_candidate (passing_here h e) ∙ sym (get_or-map packed_candidate (candidates (seen_by file blocked seat) s) n nowhere)

-- ---- `put_numbers`: those passed are written
pub record Putting (file blocked : List ℕ) (seat : Seat) (s : ℕ) (list₀ list : List ℕ) (n : ℕ) (next : Next) : Type 0 where
  pub passes : Passing file blocked seat s n next
  pub room : number_size * length (step_numbers file blocked seat s) ≤ length list₀
  pub rest : Rest bytes4 number_size 0 list₀ 0 (step_numbers file blocked seat s) list n

pub putting_all : {file blocked : List ℕ} {seat : Seat} {s : ℕ} {list array : List ℕ} {next : Next} → WalkReady file blocked seat array
    → number_size * length (step_numbers file blocked seat s) ≤ length list → WalkedStep file (seen_by file blocked seat) s next
    → Putting file blocked seat s list list 0 next
putting_all ready fits w = record { passes = passing_all ready w; room = fits; rest = rest_all }

module _ {file blocked : List ℕ} {seat : Seat} {s : ℕ} {list₀ list : List ℕ} {n : ℕ} {next : Next} (h : Putting file blocked seat s list₀ list n next) where
  pub putting_long : length list ≡ length list₀
  putting_long = h.rest.long

  pub putting_ended : {m : ℕ} → next ≡ Ended m → list ≡ splice list₀ 0 (words_of (step_numbers file blocked seat s))
  putting_ended e = rest_none h.rest (numbers_ended h.passes e)

  module _ {c : Candidate} {m : ℕ} (e : next ≡ Reached c m) where
    pub putting_room : number_size * n + number_size ≤ length list
    putting_room = omega (arith, numbers_below h.passes e, h.room, h.rest.long)

    pub putting_fits : Fits w64 (number_size * n)
    putting_fits = record { fits = omega (arith, numbers_below h.passes e, few_numbers file blocked seat s h.passes.passed) }

    pub putting_more : {next' : Next} {number : ℕ} {list' : List ℕ} → WalkedAfter file (seen_by file blocked seat) c next' → number ≡ packed_of c.deck c.polygon
        → list' ≡ splice list (number_size * n) (bytes4 number) → Putting file blocked seat s list₀ list' (n + 1) next'
    putting_more w packed put =
        record {
          passes = passing_more h.passes e w;
          room = h.room;
          rest = rest_more h.rest length_bytes4 (numbers_below h.passes e) (omega (arith, h.room)) (number_here h.passes e packed) (omega arith) put;
        }

pub ruleset putting = (passing, putting_all, putting_long, putting_ended, putting_room, putting_fits, putting_more)

-- ---- `number_at`: number j is not among those passed
pub record Seeking (file blocked : List ℕ) (seat : Seat) (s j n : ℕ) (next : Next) : Type 0 where
  pub passes : Passing file blocked seat s n next
  pub before : n ≤ j

module _ {file blocked : List ℕ} {seat : Seat} {s j n : ℕ} {next : Next} (h : Seeking file blocked seat s j n next) where
  pub seeking_ended : {m : ℕ} → next ≡ Ended m → 0 ≡ get_or (step_numbers file blocked seat s) j 0
  seeking_ended e = sym (get_or-eq_default (step_numbers file blocked seat s) 0 (omega (arith, numbers_ended h.passes e, h.before)))

  pub seeking_here : {c : Candidate} {m number : ℕ} → next ≡ Reached c m → number ≡ packed_of c.deck c.polygon → n ≡ j
      → number ≡ get_or (step_numbers file blocked seat s) j 0
  seeking_here e packed same = rw (← same) (number_here h.passes e packed)

  pub seeking_more : {c : Candidate} {m : ℕ} {next' : Next} → next ≡ Reached c m → (n ≡ j → ⊥) → WalkedAfter file (seen_by file blocked seat) c next'
      → Seeking file blocked seat s j (n + 1) next'
  seeking_more e other w = record { passes = passing_more h.passes e w; before = omega (arith, h.before, other) }

pub ruleset seeking = (passing, seeking_ended, seeking_here, seeking_more)
