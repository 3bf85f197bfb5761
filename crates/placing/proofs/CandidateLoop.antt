-- The loop over the candidates of a step, `take_step`: what it says at its start, in a turn and at its end.
use Prim.Native.Nat.{ℕ, suc, ◌+◌, ◌*◌, ◌≤◌, ◌<◌, ◌^◌}
use mathlib.Core.Path.{◌≡◌, sym, ap, subst}
use mathlib.Core.List.{List}
use native.Mathlib.Omega.{arith}
use native.Mathlib.Nat.{add_assoc}
use mir.Syntax.{w64}
use mir.Val.{Fits}
use lib.ListN.{length}
use Rattle.geometry.specs.declared.Vec2.{Vec2}
use Rattle.geometry.specs.declared.Height.{Height}
use Rattle.geometry.specs.Bounds.{PointWithin}
use Rattle.hits.specs.declared.Candidate.{Candidate}
use Rattle.ship.specs.Layout.{steps_in}
use Rattle.ship.specs.Questions.{first_no}
use Rattle.survey.specs.declared.Seat.{Seat}
use Rattle.survey.specs.Search.{candidates, tried_in}
use Rattle.walking.specs.declared.Next.{Next}
use Rattle.walking.specs.declared.Next.TheVariants.{Reached, Ended}
use Rattle.walking.specs.Sees.{shown_by, seen_by, CandidateIn}
use Rattle.walking.specs.Lists.{WalkReady}
use Rattle.walking.specs.Walk.{candidates_after, tried_after, left_of, left_tried, NextIn, WalkedStep, WalkedAfter}
use Rattle.walking.proofs.ShownLaws.{candidate_within, few_tried, few_candidates, step_few}
use Rattle.walking.proofs.Walks.{walk_passed}
use Rattle.placing.specs.declared.Tally.{Tally}
use Rattle.placing.specs.Tally.{shown_choice, best_from, start_of, take_with, step_tally, BestWithin, TallyWithin}
use Rattle.placing.proofs.Choosing.{chosen_within}
use Rattle.std.specs.Prelude.{Ok, None}

-- the candidates before those that are left are taken in
pub record Taking (file blocked : List ℕ) (seat : Seat) (s tried : ℕ) (tally : Tally) (next : Next) : Type 0 where
  pub passed : first_no file ≡ Ok tt
  pub place_within : PointWithin 1000000 seat.place
  pub step_below : s < 16
  pub few : tried ≤ 38656 * s
  pub next_in : NextIn file next
  pub tried_is : tally.tried + left_tried (seen_by file blocked seat) next ≡ tried + tried_in (seen_by file blocked seat) s
  pub count_is : tally.candidates + length (left_of (seen_by file blocked seat) next) ≡ length (candidates (seen_by file blocked seat) s)
  pub best_is : best_from (seen_by file blocked seat) tally.best (left_of (seen_by file blocked seat) next) ≡ best_from (seen_by file blocked seat) None (candidates (seen_by file blocked seat) s)
  pub best_within : BestWithin tally.best

pub taking_all : {file blocked : List ℕ} {seat : Seat} {array : List ℕ} {s tried : ℕ} {next : Next} → WalkReady file blocked seat array
    → s < steps_in file → tried ≤ 38656 * s
    → WalkedStep file (seen_by file blocked seat) s next → Taking file blocked seat s tried (start_of tried) next
taking_all {file} {tried = tried} ready l few w =
    record {
      passed = walk_passed ready;
      place_within = ready.search_ready.place_within;
      step_below = step_few file (walk_passed ready) l;
      few = few;
      next_in = w.within;
      tried_is = ap (λ (n : ℕ). tried + n) (sym w.tried_is);
      count_is = omega (arith, ap length w.left_is);
      best_is = rw w.left_is;
      best_within = tt;
    }

module _ {file blocked : List ℕ} {seat : Seat} {s tried : ℕ} {tally : Tally} {next : Next} (h : Taking file blocked seat s tried tally next) where
  tried_small : tried_in (seen_by file blocked seat) s ≤ 38656
  tried_small = few_tried file blocked seat s h.passed h.step_below

  count_small : length (candidates (seen_by file blocked seat) s) ≤ 4294967040
  count_small = few_candidates file blocked seat s h.passed

  -- ---- the end
  module _ {n : ℕ} (e : next ≡ Ended n) where
    tried_end : tally.tried + n ≡ tried + tried_in (seen_by file blocked seat) s
    tried_end = rw e at h.tried_is

    count_end : tally.candidates + 0 ≡ length (candidates (seen_by file blocked seat) s)
    count_end = rw e at h.count_is

    pub ended_fits : Fits w64 (tally.tried + n)
    ended_fits = record { fits = omega (arith, tried_end, tried_small, h.few, h.step_below) }

    pub taking_ended : record { tried = tally.tried + n; candidates = tally.candidates; best = tally.best } ≡ step_tally (seen_by file blocked seat) s tried
    unfolding step_tally best_from
    taking_ended =
        let count : tally.candidates ≡ length (candidates (seen_by file blocked seat) s) = omega (arith, count_end) in
        let best : tally.best ≡ best_from (seen_by file blocked seat) None (candidates (seen_by file blocked seat) s) = rw e at h.best_is in
        rw (tried_end, count, best)

    pub ended_within : TallyWithin (s + 1) (record { tried = tally.tried + n; candidates = tally.candidates; best = tally.best })
    ended_within =
        record {
          tried_within = omega (arith, tried_end, tried_small, h.few);
          candidates_within = omega (arith, count_end, count_small);
          best_within = h.best_within;
        }

  -- ---- one more
  module _ {c : Candidate} {n : ℕ} (e : next ≡ Reached c n) where
    pub taking_in : CandidateIn file c
    taking_in = subst (NextIn file) e h.next_in

    tried_more : tally.tried + (n + tried_after (seen_by file blocked seat) c) ≡ tried + tried_in (seen_by file blocked seat) s
    tried_more = rw e at h.tried_is

    count_more : tally.candidates + suc (length (candidates_after (seen_by file blocked seat) c)) ≡ length (candidates (seen_by file blocked seat) s)
    count_more = rw e at h.count_is

    pub tried_room : tally.tried + n < 2 ^ 63
    tried_room = omega (arith, tried_more, tried_small, h.few, h.step_below)

    pub count_room : tally.candidates < 2 ^ 63
    count_room = omega (arith, count_more, count_small)

    module _ {place : Vec2} {g : Height} {tally' : Tally} {next' : Next} (at : place ≡ (shown_by file seat.place).place c)
        (measured : g ≡ (shown_by file seat.place).height c)
        (took : tally' ≡ take_with seat.wish tally n (record { candidate = c; place = place; height = g })) (w : WalkedAfter file (seen_by file blocked seat) c next') where
      pub taking_less : length (left_of (seen_by file blocked seat) next') < length (left_of (seen_by file blocked seat) next)
      taking_less = rw (e, ← w.left_is) (omega arith)

      pub taking_more : Taking file blocked seat s tried tally' next'
      unfolding best_from
      taking_more =
          let v = seen_by file blocked seat in
          rw (took, at, measured)
          (record {
            passed = h.passed;
            place_within = h.place_within;
            step_below = h.step_below;
            few = h.few;
            next_in = w.within;
            tried_is = rw (← w.tried_is, add_assoc) tried_more;
            count_is = rw (← w.left_is) (omega (arith, count_more));
            best_is = rw (← w.left_is) (rw e at h.best_is);
            best_within =
                chosen_within seat.wish tally.best (shown_choice v c) h.best_within
                (candidate_within h.passed taking_in h.place_within);
          })

pub ruleset taking = (taking_all, ended_fits, taking_ended, ended_within, taking_in, tried_room, count_room, taking_less, taking_more)
