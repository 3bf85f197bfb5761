-- The loop over the steps, `search_steps`: what it says at its start, in a turn, where a step has a candidate and at its end.
use Prim.Native.Nat.{ℕ, suc, ◌+◌, ◌*◌, ◌-◌, ◌≤◌, ◌<◌}
use mathlib.Core.Path.{◌≡◌, refl, sym, ap, ◌∙◌, subst}
use mathlib.Core.List.{List, [], ◌∷◌}
use native.Mathlib.Omega.{arith}
use native.Mathlib.Numerals.{add-one}
use lib.ListN.{length}
use Rattle.records.specs.declared.SeatRecord.{SeatRecord}
use Rattle.records.specs.Record.{unplaced_record}
use Rattle.hits.specs.declared.Candidate.{Candidate}
use Rattle.ship.specs.Layout.{steps_in}
use Rattle.ship.specs.Decode.{decode}
use Rattle.ship.proofs.ModelFacts.{steps_in_lem}
use Rattle.survey.specs.declared.Seat.{Seat}
use Rattle.survey.specs.View.{View}
use Rattle.survey.specs.Record.{record_at_place}
use Rattle.survey.specs.Search.{candidates, tried_in, tried_before, best_of, first_step, seat_record}
use Rattle.survey.proofs.Loops.{first_step_yes, first_step_no, first_step_none}
use Rattle.keeping.specs.Lists.{ListsRoom}
use Rattle.walking.specs.Sees.{seen_by, SearchReady, CandidateWithin}
use Rattle.walking.specs.Lists.{ListsReady}
use Rattle.std.specs.Prelude.{Some, None}
use Rattle.placing.specs.declared.Choice.{Choice}
use Rattle.placing.specs.declared.Tally.{Tally}
use Rattle.placing.specs.Tally.{shown_choice, best_from, step_tally, BestWithin, TallyWithin, CountsWithin}
use Rattle.placing.proofs.Choosing.{best_from_none}

-- the steps below s have no candidate
pub record Searching (file blocked : List ℕ) (seat : Seat) (tried s : ℕ) : Type 0 where
  pub same : first_step (seen_by file blocked seat) 0 (decode file).steps ≡ first_step (seen_by file blocked seat) s ((decode file).steps - s)
  pub before : tried ≡ tried_before (seen_by file blocked seat) s
  pub few : tried ≤ 38656 * s

pub searching_all : (file blocked : List ℕ) (seat : Seat) → Searching file blocked seat 0 0
unfolding tried_before
searching_all file blocked seat =
    let e : (decode file).steps - 0 ≡ (decode file).steps = omega arith in
    record { same = rw e; before = refl; few = omega arith }

none_some : {choice : Choice} → None ≡ Some choice → ⊥
none_some e = let z : ◌≡◌ {A = ℕ} 0 1 = cc in omega arith

module _ {m : ℕ} {t : Tally} (w : TallyWithin m t) where
  pub best_placed : {choice : Choice} → t.best ≡ Some choice → CandidateWithin choice.candidate choice.place choice.height
  best_placed e = subst BestWithin e w.best_within

  pub counts_within : m ≤ 16 → CountsWithin t.tried t.candidates
  counts_within l = record { tried_few = omega (arith, w.tried_within); candidates_few = w.candidates_within }

-- ---- what is asked for the step
pub step_in : (file : List ℕ) {n s : ℕ} → n ≡ (decode file).steps → s < n → s < steps_in file
step_in file all l = omega (arith, steps_in_lem file)

module _ {file blocked : List ℕ} {seat : Seat} {tried s n : ℕ} (h : Searching file blocked seat tried s) (all : n ≡ (decode file).steps) where
  pub searching_few : s ≤ n → n ≤ 16 → tried ≤ 618496
  searching_few l m = omega (arith, h.few)

  pub searching_none : {r : SeatRecord} → r ≡ unplaced_record tried → s ≤ n → n ≤ s → r ≡ seat_record (seen_by file blocked seat) (decode file).steps
  unfolding seat_record
  searching_none e l m =
      let v = seen_by file blocked seat in
      let q : s ≡ (decode file).steps = omega arith in
      e ∙ rw (h.same, first_step_none v s (decode file).steps (omega arith)) (ap unplaced_record (h.before ∙ ap (tried_before v) q))

  module _ {t : Tally} (l : s < n) (taken : t ≡ step_tally (seen_by file blocked seat) s tried) where
    -- the samples tried, this step's with them
    tried_next : t.tried ≡ tried_before (seen_by file blocked seat) (suc s)
    unfolding tried_before step_tally
    tried_next = rw taken (ap (λ (m : ℕ). m + tried_in (seen_by file blocked seat) s) h.before)

    best_next : t.best ≡ best_from (seen_by file blocked seat) None (candidates (seen_by file blocked seat) s)
    unfolding step_tally
    best_next = rw taken

    count_next : t.candidates ≡ length (candidates (seen_by file blocked seat) s)
    unfolding step_tally
    count_next = rw taken

    pub searching_more : t.best ≡ None → TallyWithin (s + 1) t → Searching file blocked seat t.tried (s + 1)
    searching_more none w = go (candidates v s) refl
      where
        v : View
        v = seen_by file blocked seat

        go : (cs : List Candidate) → candidates v s ≡ cs → Searching file blocked seat t.tried (s + 1)
        go [] e =
            record {
              same = h.same ∙ first_step_no v s (decode file).steps (omega arith) e;
              before = tried_next ∙ ap (tried_before v) (sym (add-one s));
              few = w.tried_within;
            }
        go (c ∷ rest) e =
            let chosen : t.best ≡ Some (shown_choice v (best_of v c rest)) = best_next ∙ rw e (best_from_none v c rest) in
            absurd (none_some (sym none ∙ chosen))

    pub searching_found : {choice : Choice} {r : SeatRecord} → t.best ≡ Some choice
        → r ≡ record_at_place choice.candidate choice.place choice.height t.tried t.candidates → r ≡ seat_record (seen_by file blocked seat) (decode file).steps
    unfolding seat_record best_from
    searching_found {choice} {r} is made = go (candidates v s) refl
      where
        v : View
        v = seen_by file blocked seat

        go : (cs : List Candidate) → candidates v s ≡ cs → r ≡ seat_record v (decode file).steps
        go [] e =
            let none : t.best ≡ None = best_next ∙ rw e in
            absurd (none_some (sym none ∙ is))
        go (first ∷ rest) e =
            let chosen : t.best ≡ Some (shown_choice v (best_of v first rest)) = best_next ∙ rw e (best_from_none v first rest) in
            let same : choice ≡ shown_choice v (best_of v first rest) = cc in
            made ∙ rw (h.same, first_step_yes v s (decode file).steps first rest (omega arith) e, same, tried_next, count_next, e)

pub ruleset searching = (step_in, searching_all, best_placed, counts_within, searching_few, searching_none, searching_more, searching_found)

-- ---- `place_seat`
pub lists_ready : {blocked : List ℕ} {seat : Seat} {kept : List ℕ} → SearchReady blocked seat → ListsRoom kept
    → ListsReady seat.place kept × (length blocked ≡ 32)
lists_ready ready room =
    (record { place_within = ready.place_within; room = room }, ready.blocked_long)
