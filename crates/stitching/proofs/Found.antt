-- The call `find_stitch_points`: from the count of the first walk and what the second wrote to the reply, and how long a reply is.
use Prim.Native.Nat.{ℕ, ◌+◌, ◌*◌, ◌^◌, ◌<◌}
use native.Mathlib.Omega.{arith}
use mathlib.Core.Path.{◌≡◌, refl, sym, ◌∙◌}
use mathlib.Core.Bool.{Bool, true, false}
use mathlib.Core.List.{List}
use lib.ListN.{length}
use Rattle.words.specs.Bytes.{joined, splice}
use Rattle.answers.specs.Questions.{question20}
use Rattle.answers.specs.Replies.{Replied}
use Rattle.answers.proofs.Asking.{q20_short, q20_fits}
use Rattle.answers.proofs.Replying.{replied_refused, replied_short, replied_written}
use Rattle.std.specs.Prelude.{Result, Ok, Err}
use Rattle.answers.specs.declared.Refusal.{Refusal}
use Rattle.answers.specs.declared.Refusal.TheVariants.{NoRoom}
use Rattle.ship.specs.Decode.{decode}
use Rattle.ship.specs.Questions.{first_no}
use Rattle.decks.specs.Opened.{opened}
use Rattle.decks.proofs.Opening.{open_no, open_yes, open_same}
use Rattle.stitching.specs.Points.{stitch_points, stitch_size, stitch_bytes, stitch_points_reply}
use Rattle.stitching.specs.Walk.{StitchesPut}
use Rattle.stitching.proofs.Putting.{length_stitches}

-- so the count of an answer fits an i64
pub reply_length : (file : List ℕ) → length (stitch_points_reply file).bytes ≡ stitch_size * (stitch_points_reply file).count
reply_length file = length_stitches (stitch_points (decode file))

-- r is what the opening returned
module _ (file : List ℕ) {r : Result (List ℕ) Refusal} (asked : r ≡ opened (first_no file) file) where
  pub found_refused : (out : List ℕ) {refusal : Refusal} → r ≡ Err refusal → Replied (stitch_points_reply file) out out (Err refusal)
  found_refused out e = replied_refused refl (open_no (first_no file) file asked e)

  module _ {ship : List ℕ} (passed : r ≡ Ok ship) {none none' : List ℕ} {count : ℕ} (put : StitchesPut (stitch_points (decode ship)) 0 none none' count)
      (out : List ℕ) {fits : Bool} (room : fits ≡ question20 (stitch_size * count) (length out)) where
    first : StitchesPut (stitch_points (decode file)) 0 none none' count
    first = rw (open_same (first_no file) file asked passed) at put

    pub found_short : fits ≡ false → Replied (stitch_points_reply file) out out (Err NoRoom)
    found_short no_room =
        replied_short refl (open_yes (first_no file) file asked passed)
        (omega (arith, q20_short (stitch_size * count) (length out) (sym room ∙ no_room), first.count, reply_length file))

    pub found_written : fits ≡ true → length out < 2 ^ 64 → {out' : List ℕ} {n : ℕ} → StitchesPut (stitch_points (decode ship)) 0 out out' n
        → Replied (stitch_points_reply file) out out' (Ok count)
    unfolding splice
    found_written has_room small {out'} {n} put' =
        let second : StitchesPut (stitch_points (decode file)) 0 out out' n = rw (open_same (first_no file) file asked passed) at put' in
        let bytes = joined stitch_bytes (stitch_points (decode file)) in
        let l = q20_fits (stitch_size * count) (length out) (sym room ∙ has_room) in
        let all : count ≡ length (stitch_points (decode file)) = omega (arith, first.count) in
        let long = reply_length file in
        let start : 0 + length bytes ≡ length bytes = omega arith in
        replied_written refl (open_yes (first_no file) file asked passed) (omega arith) all (second.written (omega arith) ∙ rw start)
