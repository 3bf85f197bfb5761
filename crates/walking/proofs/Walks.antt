-- The walk: the loop over the decks of a step, and what comes after a candidate.
use Prim.Native.Nat.{ℕ, ◌+◌, ◌*◌, ◌-◌, ◌≤◌, ◌<◌, ◌^◌}
use mathlib.Core.Path.{◌≡◌, refl, sym, ap, ◌∙◌, subst}
use mathlib.Core.Bool.{Bool, true, false}
use mathlib.Core.List.{List, ◌++◌}
use native.Mathlib.Omega.{arith}
use native.Mathlib.Nat.{add_assoc, add-zero}
use mir.Syntax.{w64}
use mir.Val.{Fits}
use lib.ListN.{length}
use Rattle.words.proofs.Collecting.{collect_yes, collect_no, collect_none, sum_yes, sum_no, sum_none}
use Rattle.hits.specs.declared.Candidate.{Candidate}
use Rattle.hits.specs.declared.Hit.{Hit}
use Rattle.hits.specs.Candidates.{candidate}
use Rattle.hits.specs.Hits.{tried_of}
use Rattle.ship.specs.Layout.{decks_in, steps_in}
use Rattle.ship.specs.Questions.{first_no}
use Rattle.ship.proofs.Facts.{decks_few}
use Rattle.ship.proofs.ModelFacts.{decks_length}
use Rattle.survey.specs.declared.Seat.{Seat}
use Rattle.survey.specs.Wishes.{is_open}
use Rattle.survey.specs.Search.{turn, turn_gives, turn_tried, candidates_from, tried_from}
use Rattle.survey.proofs.Loops.{passing_missed, passing_at, hit_polygon, hit_sample, gives_hit, turn_tried_bound}
use Rattle.walking.specs.declared.Next.{Next}
use Rattle.walking.specs.declared.Next.TheVariants.{Reached, Ended}
use Rattle.walking.specs.Sees.{shown_by, seen_by, CandidateIn}
use Rattle.walking.specs.Lists.{WalkReady}
use Rattle.walking.specs.Walk.{passing_after, candidates_after, tried_after, Walked, WalkedFrom, WalkedStep, WalkedAfter}
use Rattle.walking.proofs.ShownLaws.{polygons_shown, step_few}
use Rattle.std.specs.Prelude.{Option, Some, None, Ok}

-- ---- what a walk is given
module _ {file blocked : List ℕ} {seat : Seat} {array : List ℕ} (ready : WalkReady file blocked seat array) where
  pub walk_passed : first_no file ≡ Ok tt
  walk_passed = ready.file_passed

  pub walk_blocked : length blocked ≡ 32
  walk_blocked = ready.search_ready.blocked_long

-- ---- `turns_from`: the decks from d on and before e gave no candidate, and took `tried` samples
pub record Turning (file blocked : List ℕ) (seat : Seat) (s d tried e : ℕ) : Type 0 where
  pub same : candidates_from (seen_by file blocked seat) s d (decks_in file - d) ≡ candidates_from (seen_by file blocked seat) s e (decks_in file - e)
  pub tried_is : tried_from (seen_by file blocked seat) s d (decks_in file - d) ≡ tried + tried_from (seen_by file blocked seat) s e (decks_in file - e)
  pub few : tried ≤ 151 * e

pub turning_all : (file blocked : List ℕ) (seat : Seat) (s d : ℕ) → Turning file blocked seat s d 0 d
turning_all file blocked seat s d = record { same = refl; tried_is = omega arith; few = omega arith }

-- the decks of the view are those of the file
from_view : (file blocked : List ℕ) (seat : Seat) (s d : ℕ) (next : Next)
    → Walked file (seen_by file blocked seat) (candidates_from (seen_by file blocked seat) s d (decks_in file - d)) (tried_from (seen_by file blocked seat) s d (decks_in file - d)) next
    → WalkedFrom file (seen_by file blocked seat) s d next
from_view file blocked seat s d next w =
    subst (λ (n : ℕ). Walked file (seen_by file blocked seat) (candidates_from (seen_by file blocked seat) s d (n - d)) (tried_from (seen_by file blocked seat) s d (n - d)) next)
    (sym (decks_length file)) w

module _ {file blocked : List ℕ} {seat : Seat} {s d tried n e : ℕ} (h : Turning file blocked seat s d tried e) (all : n ≡ decks_in file) where
  pub turning_none : n ≤ e → WalkedFrom file (seen_by file blocked seat) s d (Ended tried)
  turning_none l =
      let v = seen_by file blocked seat in
      from_view file blocked seat s d (Ended tried)
      (record {
        left_is = h.same ∙ collect_none v.opens (turn_gives v.shown s) e (decks_in file) (omega arith);
        tried_is = h.tried_is ∙ rw (sum_none v.opens (turn_tried v.shown s) e (decks_in file) (omega arith)) (add-zero tried);
        within = tt;
      })

  module _ {r : Bool} (l : e < n) (asked : r ≡ is_open blocked seat.choice e) where
    pub turning_shut : r ≡ false → Turning file blocked seat s d tried (e + 1)
    turning_shut shut =
        let v = seen_by file blocked seat in
        record {
          same = h.same ∙ collect_no v.opens (turn_gives v.shown s) e (decks_in file) (omega arith) (sym asked ∙ shut);
          tried_is = h.tried_is ∙ ap (λ (m : ℕ). tried + m) (sum_no v.opens (turn_tried v.shown s) e (decks_in file) (omega arith) (sym asked ∙ shut));
          few = omega (arith, h.few);
        }

    module _ {hit : Option Hit} (opened : r ≡ true) (turned : hit ≡ turn (shown_by file seat.place) s e) where
      here : tried_of s hit ≡ turn_tried (shown_by file seat.place) s e
      here = ap (tried_of s) turned

      gives : candidates_from (seen_by file blocked seat) s d (decks_in file - d)
          ≡ turn_gives (shown_by file seat.place) s e ++ candidates_from (seen_by file blocked seat) s (e + 1) (decks_in file - (e + 1))
      gives = h.same ∙ collect_yes (seen_by file blocked seat).opens (turn_gives (shown_by file seat.place) s) e (decks_in file) (omega arith) (sym asked ∙ opened)

      tries : tried_from (seen_by file blocked seat) s d (decks_in file - d)
          ≡ tried + tried_of s hit + tried_from (seen_by file blocked seat) s (e + 1) (decks_in file - (e + 1))
      tries =
          h.tried_is
          ∙ ap (λ (m : ℕ). tried + m) (sum_yes (seen_by file blocked seat).opens (turn_tried (shown_by file seat.place) s) e (decks_in file) (omega arith) (sym asked ∙ opened) ∙ rw here)
          ∙ sym (add_assoc tried (tried_of s hit) (tried_from (seen_by file blocked seat) s (e + 1) (decks_in file - (e + 1))))

      module _ (passed : first_no file ≡ Ok tt) (step : s < steps_in file) where
        ring_small : tried_of s hit ≤ 151
        ring_small = omega (arith, here, turn_tried_bound (seen_by file blocked seat) s e, step_few file passed step)

        pub tries_small : tried_of s hit < 2 ^ 32
        tries_small = omega (arith, ring_small)

        module _ {t : ℕ} (took : t ≡ tried_of s hit) where
          pub tries_fit : n ≤ 256 → Fits w64 (tried + t)
          tries_fit few = record { fits = omega (arith, ring_small, h.few) }

          pub turning_missed : hit ≡ None → Turning file blocked seat s d (tried + t) (e + 1)
          turning_missed missed =
              record {
                same = gives ∙ rw (← turned, missed);
                tried_is = tries ∙ rw took;
                few = omega (arith, ring_small, h.few);
              }

          pub turning_hit : {h : Hit} → hit ≡ Some h → WalkedFrom file (seen_by file blocked seat) s d (Reached (candidate s e h.sample h.polygon) (tried + t))
          unfolding candidates_after tried_after
          turning_hit {h = found} at =
              let v = seen_by file blocked seat in
              let f : turn v.shown s e ≡ Some found = sym turned ∙ at in
              let there : e < decks_in file = omega arith in
              let sees = decks_length file in
              let polygons = polygons_shown file e seat.place in
              from_view file blocked seat s d (Reached (candidate s e found.sample found.polygon) (tried + t))
              (record {
                left_is = gives ∙ rw (gives_hit v s e found f, sees);
                tried_is = tries ∙ rw (took, sees);
                within =
                    record {
                      turn = record { deck = there; step = step };
                      sample = hit_sample v s e found f;
                      polygon = omega (arith, hit_polygon v s e found f);
                    };
              })

pub ruleset turning = (turning_all, walk_blocked, walk_passed, turning_none, turning_shut, tries_small, tries_fit, turning_missed, turning_hit)

-- ---- `first`
pub from_first : (file blocked : List ℕ) (seat : Seat) (s : ℕ) {next : Next} → WalkedFrom file (seen_by file blocked seat) s 0 next → WalkedStep file (seen_by file blocked seat) s next
from_first file blocked seat s {next} w =
    let v = seen_by file blocked seat in
    let e : v.decks - 0 ≡ v.decks = omega arith in
    subst (λ (n : ℕ). Walked file v (candidates_from v s 0 n) (tried_from v s 0 n) next) e w

-- ---- `after`
module _ (file blocked : List ℕ) (seat : Seat) (c : Candidate) {hit : Option Hit} (on : CandidateIn file c) (asked : hit ≡ passing_after (shown_by file seat.place) c) where
  pub after_missed : {next : Next} → hit ≡ None → WalkedFrom file (seen_by file blocked seat) c.step (c.deck + 1) next → WalkedAfter file (seen_by file blocked seat) c next
  unfolding candidates_after tried_after passing_after
  after_missed missed w =
      record {
        left_is = rw (passing_missed (shown_by file seat.place) c.step c.deck c.sample (c.polygon + 1) _ (sym asked ∙ missed)) w.left_is;
        tried_is = w.tried_is;
        within = w.within;
      }

  pub after_hit : {h : Hit} → hit ≡ Some h → WalkedAfter file (seen_by file blocked seat) c (Reached (candidate c.step c.deck c.sample h.polygon) 0)
  unfolding candidates_after tried_after passing_after
  after_hit {h} at =
      let v = seen_by file blocked seat in
      let polygons = polygons_shown file c.deck seat.place in
      let p = passing_at v.shown c.step c.deck c.sample (c.polygon + 1) _ h (sym asked ∙ at) in
      let rest : c.polygon + 1 + (v.shown.polygons c.deck - (c.polygon + 1)) - (h.polygon + 1) ≡ v.shown.polygons c.deck - (h.polygon + 1) = omega (arith, on.polygon) in
      record {
        left_is = rw (p.first, rest);
        tried_is = omega arith;
        within = record { turn = on.turn; sample = on.sample; polygon = omega (arith, p.below, on.polygon) };
      }

pub next_step : {file : List ℕ} {c : Candidate} → CandidateIn file c → c.step < steps_in file
next_step on = on.turn.step

pub next_deck : {file : List ℕ} {c : Candidate} → CandidateIn file c → c.deck + 1 ≤ decks_in file
next_deck on = omega (arith, on.turn.deck)

pub deck_fits : {file : List ℕ} {c : Candidate} → first_no file ≡ Ok tt → CandidateIn file c → Fits w64 (c.deck + 1)
deck_fits {file} passed on = record { fits = omega (arith, on.turn.deck, decks_few file passed) }

pub ruleset afters = (walk_passed, after_missed, after_hit, next_step, next_deck, deck_fits)
