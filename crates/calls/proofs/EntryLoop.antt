-- A candidate's entry, and the loop over the candidates of a step that writes them: what it says at its start, in a turn and at its end.
use Prim.Native.Nat.{ℕ, ◌+◌, ◌*◌, ◌≤◌}
use mathlib.Core.Path.{◌≡◌, refl, ◌∙◌}
use mathlib.Core.Bool.{Bool, true, false, not}
use mathlib.Core.List.{List, [], ◌∷◌}
use native.Mathlib.Omega.{arith}
use lib.ListN.{length}
use lib.Ieee.{binary32, to_bits}
use Rattle.geometry.specs.declared.Vec2.{Vec2}
use Rattle.geometry.specs.Bounds.{PointWithin}
use Rattle.geometry.proofs.Bounds.{not_nan, widen}
use Rattle.words.specs.Bytes.{bytes4, joined, words_of, splice}
use Rattle.words.proofs.Writing.{Rest, rest_all, rest_more_front, rest_front, length_joined}
use Rattle.answers.specs.Questions.{question20}
use Rattle.answers.specs.Replies.{Replied}
use Rattle.answers.proofs.Asking.{said_yes, q20_fits}
use Rattle.answers.proofs.Replying.{replied_short, replied_written, room_short, room_fits}
use Rattle.std.specs.Prelude.{Ok, Err}
use Rattle.answers.specs.declared.Refusal.TheVariants.{NoRoom}
use Rattle.hits.specs.declared.Candidate.{Candidate}
use Rattle.ship.specs.Packed.{packed_of}
use Rattle.survey.specs.declared.Seat.{Seat}
use Rattle.survey.specs.View.{Shown}
use Rattle.survey.specs.Search.{candidates}
use Rattle.walking.specs.declared.Next.{Next}
use Rattle.walking.specs.declared.Next.TheVariants.{Reached, Ended}
use Rattle.walking.specs.Sees.{shown_by, seen_by}
use Rattle.walking.specs.Lists.{WalkReady}
use Rattle.walking.specs.Walk.{WalkedStep, WalkedAfter}
use Rattle.walking.proofs.Passing.{nowhere, Passing, passing_all, passing_ended, passing_below, passing_here, passing_within, passing_more, passing}
use Rattle.calls.specs.Closest.{entry_size, entry_bytes, candidate_bytes, StepFits, StepPut, StepCount, step_reply}

-- ---- `put_candidate`
pub entry_is : (polygon : ℕ) (place : Vec2) (out : List ℕ) (at : ℕ) {out' : List ℕ}
    → out' ≡ splice out at (words_of (polygon ∷ to_bits binary32 place.x ∷ to_bits binary32 place.y ∷ [])) → out' ≡ splice out at (entry_bytes polygon place)
unfolding entry_bytes
entry_is polygon place out at e = e

pub ruleset entry = (not_nan, entry_is)

-- ---- lengths
pub length_candidate : (w : Shown) (c : Candidate) → length (candidate_bytes w c) ≡ entry_size
unfolding candidate_bytes entry_bytes joined bytes4
length_candidate w c = refl

pub length_candidates : (w : Shown) (l : List Candidate) → length (joined (candidate_bytes w) l) ≡ entry_size * length l
length_candidates w = length_joined (candidate_bytes w) entry_size (length_candidate w)

-- ---- `put_step`: the candidates passed stand in the output
pub record Putting (file blocked : List ℕ) (seat : Seat) (s : ℕ) (out₀ out : List ℕ) (n : ℕ) (next : Next) : Type 0 where
  pub passes : Passing file blocked seat s n next
  pub room : StepFits (seen_by file blocked seat) s out₀
  pub rest : Rest (candidate_bytes (shown_by file seat.place)) entry_size nowhere out₀ 0 (candidates (seen_by file blocked seat) s) out n

pub putting_all : {file blocked : List ℕ} {seat : Seat} {s count : ℕ} {out array : List ℕ} {next : Next} → WalkReady file blocked seat array
    → StepCount (seen_by file blocked seat) s count → entry_size * count ≤ length out → WalkedStep file (seen_by file blocked seat) s next → Putting file blocked seat s out out 0 next
putting_all ready counts fits w = record { passes = passing_all ready w; room = rw (← counts) fits; rest = rest_all }

module _ {file blocked : List ℕ} {seat : Seat} {s : ℕ} {out₀ out : List ℕ} {n : ℕ} {next : Next} (h : Putting file blocked seat s out₀ out n next) where
  pub putting_long : length out ≡ length out₀
  putting_long = h.rest.long

  pub putting_ended : {m : ℕ} → next ≡ Ended m → StepPut (seen_by file blocked seat) s out₀ out
  putting_ended e = rest_front h.rest (length_candidate (shown_by file seat.place)) (passing_ended h.passes e)

  module _ {c : Candidate} {m : ℕ} (e : next ≡ Reached c m) where
    pub putting_room : entry_size * n + entry_size ≤ length out
    putting_room = omega (arith, passing_below h.passes e, h.room, h.rest.long)

    module _ {place : Vec2} (at : place ≡ (shown_by file seat.place).place c) where
      pub putting_place : PointWithin 3030000 place
      putting_place =
          let near = (passing_within h.passes e).place_within in
          rw at (record { x = widen (omega arith) near.x; y = widen (omega arith) near.y })

      pub putting_more : {next' : Next} → WalkedAfter file (seen_by file blocked seat) c next' → {polygon : ℕ} {out' : List ℕ} → polygon ≡ packed_of c.deck c.polygon
          → out' ≡ splice out (entry_size * n) (entry_bytes polygon place) → Putting file blocked seat s out₀ out' (n + 1) next'
      unfolding candidate_bytes
      putting_more w packed put =
          record {
            passes = passing_more h.passes e w;
            room = h.room;
            rest =
                rest_more_front h.rest (length_candidate (shown_by file seat.place)) (passing_below h.passes e) h.room (passing_here h.passes e) refl
                (put ∙ rw (packed, at));
          }

pub ruleset putting = (passing, putting_all, putting_long, putting_ended, putting_room, putting_place, putting_more)

-- ---- `put_counted`
module _ (file blocked : List ℕ) (seat : Seat) (s : ℕ) {count : ℕ} (counted : StepCount (seen_by file blocked seat) s count) (out : List ℕ) {fits : Bool}
    (room : fits ≡ question20 (entry_size * count) (length out)) where
  step_long : length (step_reply (seen_by file blocked seat) s).bytes ≡ entry_size * count
  step_long = length_candidates (shown_by file seat.place) (candidates (seen_by file blocked seat) s) ∙ rw counted

  pub step_refused : not fits ≡ true → Replied (step_reply (seen_by file blocked seat) s) out out (Err NoRoom)
  step_refused no_room = replied_short refl refl (room_short (step_reply (seen_by file blocked seat) s) out entry_size count step_long room no_room)

  module _ (has_room : not fits ≡ false) where
    pub step_fits : entry_size * count ≤ length out
    step_fits = q20_fits (entry_size * count) (length out) (said_yes room has_room)

    pub step_written : {out' : List ℕ} → StepPut (seen_by file blocked seat) s out out' → Replied (step_reply (seen_by file blocked seat) s) out out' (Ok count)
    step_written o =
        replied_written refl refl (room_fits (step_reply (seen_by file blocked seat) s) out entry_size count step_long room has_room) counted
        (o ∙ rw (length_candidates (shown_by file seat.place) (candidates (seen_by file blocked seat) s)))

pub ruleset counted = (step_refused, step_fits, step_written)
