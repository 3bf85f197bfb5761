-- The replies of `candidate_polygons`: a list of polygons as the answer, and which list it is in each case.
use Prim.Native.Nat.{ℕ, ◌*◌, ◌^◌, ◌≤◌, ◌<◌}
use native.Mathlib.Omega.{arith}
use mathlib.Core.Path.{◌≡◌, refl, ap, ◌∙◌, subst}
use mathlib.Core.Bool.{Bool, true, false, not}
use mathlib.Core.List.{List, [], ◌∷◌}
use mir.Syntax.{w64}
use mir.Val.{Fits}
use lib.ListN.{length, take, replicate}
use borrow.Author.Tests.{eq-eqb, ne_eqb}
use Rattle.geometry.specs.declared.Vec2.{Vec2}
use Rattle.words.specs.Bytes.{all_ones, bytes4, joined, words_of, splice}
use Rattle.words.specs.Rows.{collect}
use Rattle.words.proofs.Numbers.{length_words, splice_front}
use Rattle.answers.specs.Checks.{ask, after, Check}
use Rattle.answers.specs.Questions.{question17, question20}
use Rattle.answers.specs.Replies.{Reply, reply_of, Replied, work_to, Worked, Answer}
use Rattle.answers.proofs.Asking.{said_no, said_yes, q20_short, q20_fits, q20_yes}
use Rattle.answers.proofs.Replying.{worked_refused, worked_narrow, worked_short, worked_written}
use Rattle.std.specs.Prelude.{Result, Ok, Err}
use Rattle.answers.specs.declared.Refusal.{Refusal}
use Rattle.answers.specs.declared.Refusal.TheVariants.{NoRoom}
use Rattle.ship.specs.Layout.{number_size, decks_in}
use Rattle.ship.specs.Model.{polygon_total}
use Rattle.ship.specs.Decode.{decode}
use Rattle.decks.specs.Opened.{opened}
use Rattle.decks.proofs.Opening.{open_no}
use Rattle.touching.specs.Touching.{touches}
use Rattle.touching.specs.Reach.{merged}
use Rattle.touching.proofs.Reaching.{merged_few}
use Rattle.survey.specs.declared.Seat.{Seat}
use Rattle.survey.specs.Search.{candidates}
use Rattle.walking.specs.Sees.{seen_by}
use Rattle.numbering.specs.Numbers.{step_numbers, step_merged}
use Rattle.numbering.proofs.NumberLoop.{numbers_length}
use Rattle.candidates.specs.Candidates.{candidate_check, found_polygons, candidate_polygons, candidates_work, CandidatesWorked}
use Rattle.candidates.specs.Written.{NumbersWorked, NumbersMerged, found_merged}

-- ---- a list of polygons
pub numbers_short : (polygons : List ℕ) {out work : List ℕ} → length out < number_size * length polygons → NumbersWorked polygons out out work work (Err NoRoom)
numbers_short polygons l = worked_short refl refl (omega arith) (omega (arith, length_words polygons))

pub numbers_written : (polygons : List ℕ) {out out' work work' : List ℕ} {n : ℕ} → number_size * length polygons ≤ length out → n ≡ length polygons
    → out' ≡ splice out 0 (words_of polygons) → work' ≡ replicate (length work) 0 → NumbersWorked polygons out out' work work' (Ok n)
numbers_written polygons {out} l n o z =
    worked_written refl refl (omega arith) (omega (arith, length_words polygons)) n (o ∙ splice_front out (words_of polygons)) z

-- ---- `put_none`, `put_named`
pub none_written : {out work work' : List ℕ} → work' ≡ replicate (length work) 0 → NumbersWorked [] out out work work' (Ok 0)
unfolding joined
none_written z = worked_written refl refl (omega arith) (omega arith) refl refl z

pub named_room : (out : List ℕ) {fits : Bool} → fits ≡ question20 (number_size * 1) (length out) → not fits ≡ false → number_size ≤ length out
named_room out said room = q20_fits (number_size * 1) (length out) (said_yes said room)

module _ (polygon : ℕ) (out : List ℕ) {work : List ℕ} {fits : Bool} (said : fits ≡ question20 (number_size * 1) (length out)) where
  pub named_short : not fits ≡ true → NumbersWorked (polygon ∷ []) out out work work (Err NoRoom)
  named_short no_room = numbers_short (polygon ∷ []) (q20_short (number_size * 1) (length out) (said_no said no_room))

  pub named_written : not fits ≡ false → {out' work' : List ℕ} → out' ≡ splice out 0 (bytes4 polygon) → work' ≡ replicate (length work) 0
      → NumbersWorked (polygon ∷ []) out out' work work' (Ok 1)
  unfolding joined bytes4
  named_written room o z = numbers_written (polygon ∷ []) (named_room out said room) refl o z

pub ruleset named = (none_written, named_short, named_room, named_written)

-- ---- `put_staying`
module _ {polygons work work₁ : List ℕ} {stay : ℕ} (m : NumbersMerged polygons work work₁ stay) where
  pub staying_inside : {count : ℕ} → length polygons ≤ count → number_size * count ≤ length work → number_size * stay ≤ length work₁
  staying_inside few fits = omega (arith, m.count, m.long)

  module _ (out : List ℕ) {fits : Bool} (said : fits ≡ question20 (number_size * length polygons) (length out)) where
    pub staying_room : not fits ≡ false → number_size * stay ≤ length out
    staying_room room = rw m.count (q20_fits (number_size * length polygons) (length out) (said_yes said room))

    pub staying_word : not fits ≡ false → length out < 2 ^ 64 → Fits w64 (number_size * stay)
    staying_word room l = record { fits = omega (arith, staying_room room) }

    pub staying_written : not fits ≡ false → {out' work' : List ℕ} → out' ≡ splice out 0 (take (number_size * stay) work₁) → work' ≡ replicate (length work₁) 0
        → NumbersWorked polygons out out' work work' (Ok stay)
    staying_written room o z =
        numbers_written polygons (q20_fits (number_size * length polygons) (length out) (said_yes said room)) m.count
        (o ∙ ap (splice out 0) m.first) (z ∙ ap (λ (n : ℕ). replicate n 0) m.long)

-- no more stay than there are
pub staying_few : (file blocked : List ℕ) (seat : Seat) (s : ℕ) {count : ℕ} → count ≡ length (candidates (seen_by file blocked seat) s)
    → length (step_merged file blocked seat s) ≤ count
staying_few file blocked seat s counted =
    omega (arith, counted, numbers_length file blocked seat s, merged_few (touches (decode file)) (step_numbers file blocked seat s))

pub staying_short : (polygons out : List ℕ) {work : List ℕ} {fits : Bool} → fits ≡ question20 (number_size * length polygons) (length out) → not fits ≡ true
    → NumbersWorked polygons out out work work (Err NoRoom)
staying_short polygons out said no_room = numbers_short polygons (q20_short (number_size * length polygons) (length out) (said_no said no_room))

pub ruleset staying = (staying_short, staying_inside, staying_room, staying_word, staying_written)

-- ---- the call: its questions passed, and work is wide enough
lifted : {polygons polygons' : List ℕ} {check : Check} {wanted : ℕ} {out out' work work' : List ℕ} {r : Answer} → NumbersWorked polygons out out' work work' r
    → check ≡ Ok tt → wanted ≤ length work → polygons ≡ polygons' → Worked (reply_of check bytes4 polygons') wanted out out' work work' r
lifted {polygons} {polygons'} {check} {wanted} {out} {out'} {work} {work'} {r} w passed wide same =
    let k : ask (question20 0 (length work)) NoRoom (Ok tt) ≡ after check (ask (question20 wanted (length work)) NoRoom (Ok tt))
    = rw (passed, q20_yes 0 (length work) (omega arith), q20_yes wanted (length work) wide) in
    let R : Check → Reply = λ c. record { check = c; count = length polygons; bytes = joined bytes4 polygons } in
    rw (← same)
    (record { replied = subst (λ (c : Check). Replied (R c) out out' r) k w.replied; work_is = subst (λ (c : Check). work' ≡ work_to (R c) out work) k w.work_is })

module _ (file : List ℕ) (deck : ℕ) {decks : ℕ} {there : Bool} (count : decks ≡ decks_in file) (told : there ≡ question17 decks deck) where
  deck_absent : not there ≡ true → question17 (decks_in file) deck ≡ false
  deck_absent t = rw count at (said_no told t)

  pub deck_there : not there ≡ false → question17 (decks_in file) deck ≡ true
  deck_there t = rw count at (said_yes told t)

pub call_wide : (file work : List ℕ) {total : ℕ} {fits : Bool} → total ≡ polygon_total (decode file) → fits ≡ question20 (number_size * total) (length work) → not fits ≡ false
    → candidates_work file ≤ length work
call_wide file work {total} all said room = rw all at (q20_fits (number_size * total) (length work) (said_yes said room))

module _ (file : List ℕ) (p : Vec2) (deck polygon : ℕ) (blocked : List ℕ) {out work : List ℕ} where
  -- r is what the check returned
  pub call_refused : {r : Result (List ℕ) Refusal} {refusal : Refusal} → r ≡ opened (candidate_check file p blocked) file → r ≡ Err refusal
      → CandidatesWorked file p deck polygon blocked out out work work (Err refusal)
  call_refused asked e = worked_refused refl (open_no _ _ asked e)

  module _ (passed : candidate_check file p blocked ≡ Ok tt) {total : ℕ} {fits : Bool} (all : total ≡ polygon_total (decode file))
      (said : fits ≡ question20 (number_size * total) (length work)) where
    pub call_narrow : not fits ≡ true → CandidatesWorked file p deck polygon blocked out out work work (Err NoRoom)
    call_narrow no_room = worked_narrow refl passed (rw all at (q20_short (number_size * total) (length work) (said_no said no_room)))

    module _ (room : not fits ≡ false) where
      module _ {out' work' : List ℕ} {r : Answer} where
        pub call_named : (polygon ≡ all_ones → ⊥) → NumbersWorked (polygon ∷ []) out out' work work' r → CandidatesWorked file p deck polygon blocked out out' work work' r
        unfolding candidate_polygons
        call_named d w = lifted w passed (call_wide file work all said room) (rw (ne_eqb polygon all_ones d))

        module _ (any : polygon ≡ all_ones) {decks : ℕ} {there : Bool} (count : decks ≡ decks_in file) (told : there ≡ question17 decks deck) where
          pub call_absent : not there ≡ true → NumbersWorked [] out out' work work' r → CandidatesWorked file p deck polygon blocked out out' work work' r
          unfolding candidate_polygons found_polygons merged collect
          call_absent t w = lifted w passed (call_wide file work all said room) (rw (eq-eqb polygon all_ones any, deck_absent file deck count told t))

          pub call_found : not there ≡ false → NumbersWorked (found_merged file p deck blocked) out out' work work' r → CandidatesWorked file p deck polygon blocked out out' work work' r
          unfolding candidate_polygons found_polygons
          call_found t w = lifted w passed (call_wide file work all said room) (rw (eq-eqb polygon all_ones any, deck_there file deck count told t))
