-- An output that holds the longest text is never too short.
use Prim.Native.Nat.{ℕ, ◌+◌, ◌*◌, ◌≤◌}
use native.Mathlib.Omega.{arith}
use mathlib.Core.Path.{◌≡◌, refl}
use mathlib.Core.Bool.{Bool, true, false, cond}
use mathlib.Core.List.{List, [], ◌∷◌}
use lib.ListN.{length, length-append, length-drop}
use Rattle.std.specs.Prelude.{Ok, Err, IsOk}
use Rattle.answers.specs.declared.Refusal.TheVariants.{WrongInput}
use Rattle.answers.specs.Questions.{number_of}
use Rattle.answers.specs.Checks.{Check}
use Rattle.answers.specs.Replies.{Answer, Replied}
use Rattle.answers.proofs.Replying.{refused_check}
use Rattle.records.specs.declared.SeatRecord.{SeatRecord}
use Rattle.lines.specs.Lines.{refused_line}
use Rattle.lines.specs.Input.{question21}
use Rattle.lines.proofs.Lengths.{seat_long, end_long, refused_long}
use Rattle.lines.proofs.Question21.{input_small}
use Rattle.ship.specs.Decode.{decode}
use Rattle.seat_run.specs.Run.{run_check, run_records}
use Rattle.seat_run.proofs.RunRecords.{run_length}
use Rattle.listing.specs.Listing.{file_in, blocked_in, seats_in, seat_lines, placed_in, unplaced_in, run_text, list_text, seatlist_text, text_reply}
use Rattle.listing.specs.Sizes.{most_seats, seats_size, longest_text}

-- ---- no text is longer than `longest_text`
lines_long : (i : ℕ) (rs : List SeatRecord) → length (seat_lines i rs) ≤ 192 * length rs
unfolding seat_lines
lines_long i [] = omega arith
lines_long i (r ∷ rs) = simp length-append (omega (arith, seat_long i r, lines_long (i + 1) rs))

run_long : (check : Check) (rs : List SeatRecord) → length rs ≤ most_seats → length (run_text check rs) ≤ longest_text
run_long (Err refusal) rs few = omega (arith, refused_long (number_of refusal))
run_long (Ok tt) rs few = simp length-append (omega (arith, lines_long 0 rs, end_long (placed_in rs) (unplaced_in rs)))

text_longest : (input : List ℕ) → length (seatlist_text input) ≤ longest_text
unfolding seatlist_text list_text
text_longest input = go (question21 input) refl
  where
    go : (b : Bool) → question21 input ≡ b → length (cond b (list_text (file_in input) (blocked_in input) (seats_in input)) (refused_line (number_of WrongInput))) ≤ longest_text
    go true e =
        let few : length (seats_in input) ≤ seats_size = simp length-drop (omega (arith, input_small input e)) in
        run_long (run_check (file_in input) (blocked_in input) (seats_in input)) (run_records (file_in input) (blocked_in input) (seats_in input))
        (omega (arith, run_length (decode (file_in input)) (blocked_in input) (seats_in input)))
    go false e = omega (arith, refused_long (number_of WrongInput))

-- an output that holds the longest text is never too short
pub never_short : (input : List ℕ) {out out' : List ℕ} {r : Answer} → Replied (text_reply input) out out' r → longest_text ≤ length out → IsOk r
never_short input {r = Ok n} replied room = refl
never_short input {out} {r = Err refusal} replied room =
    let l : length (seatlist_text input) ≤ length out = omega (arith, text_longest input) in
    let no = refused_check replied refl l in
    cc
