-- A loop over the candidates of a step by the walk: where it came to, and what is known of the candidate that it reached.
use Prim.Native.Nat.{ℕ, ◌+◌, ◌^◌, ◌≤◌, ◌<◌}
use native.Mathlib.Omega.{arith}
use mathlib.Core.Path.{◌≡◌, ap, ◌∙◌, subst}
use mathlib.Core.List.{List, []}
use mir.Syntax.{w64}
use mir.Val.{Fits}
use lib.ListN.{length, get_or, drop, length-drop}
use Rattle.geometry.specs.Bounds.{PointWithin}
use Rattle.words.proofs.Writing.{NextOf, next_of}
use Rattle.hits.specs.declared.Candidate.{Candidate}
use Rattle.hits.specs.Candidates.{candidate}
use Rattle.ship.specs.Questions.{first_no}
use Rattle.survey.specs.declared.Seat.{Seat}
use Rattle.survey.specs.Search.{candidates}
use Rattle.walking.specs.declared.Next.{Next}
use Rattle.walking.specs.declared.Next.TheVariants.{Reached, Ended}
use Rattle.walking.specs.Sees.{shown_by, seen_by, CandidateIn, CandidateWithin}
use Rattle.walking.specs.Lists.{WalkReady}
use Rattle.walking.specs.Walk.{candidates_after, left_of, NextIn, WalkedStep, WalkedAfter}
use Rattle.walking.proofs.ShownLaws.{candidate_within, few_candidates}
use Rattle.std.specs.Prelude.{Ok}

-- stands for a candidate that is not there
abbrev pub nowhere : Candidate
nowhere = candidate 0 0 0 0

-- the first n candidates are passed, and the others are left
pub record Passing (file blocked : List ℕ) (seat : Seat) (s n : ℕ) (next : Next) : Type 0 where
  pub passed : first_no file ≡ Ok tt
  pub place_within : PointWithin 1000000 seat.place
  pub next_in : NextIn file next
  pub left_is : drop n (candidates (seen_by file blocked seat) s) ≡ left_of (seen_by file blocked seat) next

pub passing_all : {file blocked : List ℕ} {seat : Seat} {array : List ℕ} {s : ℕ} {next : Next} → WalkReady file blocked seat array
    → WalkedStep file (seen_by file blocked seat) s next → Passing file blocked seat s 0 next
passing_all ready w =
    record { passed = ready.file_passed; place_within = ready.search_ready.place_within; next_in = w.within; left_is = w.left_is }

module _ {file blocked : List ℕ} {seat : Seat} {s n : ℕ} {next : Next} (h : Passing file blocked seat s n next) where
  pub passing_ended : {m : ℕ} → next ≡ Ended m → length (candidates (seen_by file blocked seat) s) ≤ n
  passing_ended e =
      let none : drop n (candidates (seen_by file blocked seat) s) ≡ [] = rw e at h.left_is in
      omega (arith, ap length none, length-drop n (candidates (seen_by file blocked seat) s))

  module _ {c : Candidate} {m : ℕ} (e : next ≡ Reached c m) where
    pub passing_in : CandidateIn file c
    passing_in = subst (NextIn file) e h.next_in

    reached : NextOf (candidates (seen_by file blocked seat) s) nowhere n c (candidates_after (seen_by file blocked seat) c)
    reached = next_of (candidates (seen_by file blocked seat) s) nowhere n (rw e at h.left_is)

    pub passing_below : n < length (candidates (seen_by file blocked seat) s)
    passing_below = reached.below

    pub passing_here : c ≡ get_or (candidates (seen_by file blocked seat) s) n nowhere
    passing_here = reached.here

    pub passing_within : CandidateWithin c ((shown_by file seat.place).place c) ((shown_by file seat.place).height c)
    passing_within = candidate_within h.passed passing_in h.place_within

    pub passing_deck : c.deck < 256
    passing_deck = passing_within.deck

    pub passing_polygon : c.polygon < 2 ^ 24
    passing_polygon = omega (arith, passing_within.polygon)

    pub passing_fits : Fits w64 (n + 1)
    passing_fits = record { fits = omega (arith, passing_below, few_candidates file blocked seat s h.passed) }

    module _ {next' : Next} (w : WalkedAfter file (seen_by file blocked seat) c next') where
      pub passing_less : length (left_of (seen_by file blocked seat) next') < length (left_of (seen_by file blocked seat) next)
      passing_less = rw (e, ← w.left_is) (omega arith)

      pub passing_more : Passing file blocked seat s (n + 1) next'
      passing_more =
          record { passed = h.passed; place_within = h.place_within; next_in = w.within; left_is = reached.after ∙ w.left_is }

pub ruleset passing = (passing_all, passing_in, passing_deck, passing_polygon, passing_fits, passing_less, passing_more)
