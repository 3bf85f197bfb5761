-- The whole file, part after part, and what a removal replies.
use Prim.Native.Nat.{ℕ, ◌+◌, ◌≤◌, ◌<◌}
use native.Mathlib.Omega.{arith}
use mathlib.Core.Path.{◌≡◌, refl, ap, ◌∙◌}
use mathlib.Core.List.{List, ◌++◌}
use lib.ListN.{length, length-append}
use Rattle.words.specs.Bytes.{slice, splice, Put}
use Rattle.words.proofs.Splice.{splice_splice}
use Rattle.answers.proofs.Replying.{replied_refused, replied_short, replied_written}
use Rattle.std.specs.Prelude.{Result, Ok, Err}
use Rattle.answers.specs.declared.Refusal.{Refusal}
use Rattle.answers.specs.declared.Refusal.TheVariants.{NoRoom}
use Rattle.ship.specs.Layout.{header_size, blocks_position}
use Rattle.ship.specs.Questions.{first_no}
use Rattle.decks.specs.Opened.{opened}
use Rattle.decks.proofs.Opening.{open_no, open_yes, open_same}
use Rattle.ship.proofs.Facts.{header_there}
use Rattle.unstitched.specs.declared.Stitches.{Stitches}
use Rattle.unstitched.specs.NewFile.{new_table, new_file, RemovalReplied, all_blocks}
use Rattle.unstitched.proofs.NewPlaces.{header_length, front_length, parts_length}

-- ---- `put_file`
three_parts : (out a b c : List ℕ) (n m : ℕ) → n ≡ 0 + length a → m ≡ 0 + length (a ++ b) → length (a ++ b) ≤ length out
    → splice (splice (splice out 0 a) n b) m c ≡ splice out 0 (a ++ b ++ c)
three_parts out a b c n m e f room =
    rw (e, f, splice_splice out 0 a (omega (arith, length-append a b)) b) (splice_splice out 0 (a ++ b) (omega arith) c)

-- t is what is read of the ship
pub header_inside : {s t : List ℕ} → first_no s ≡ Ok tt → t ≡ s → 0 + header_size ≤ length t
header_inside {s} passed same = rw same (omega (arith, header_there s passed))

module _ (which : Stitches) (s out : List ℕ) (passed : first_no s ≡ Ok tt) (h : length (new_file which s) ≤ length out) where
  pub header_room : 0 + header_size ≤ length out
  header_room = omega (arith, h, parts_length which s passed)

  pub file_put : {t mid mid2 out' : List ℕ} {n : ℕ} → t ≡ s → Put out 0 (slice t 0 header_size) mid n → mid2 ≡ splice mid header_size (new_table which s)
      → out' ≡ splice mid2 (blocks_position s) (all_blocks which s) → out' ≡ splice out 0 (new_file which s)
  unfolding new_file all_blocks
  file_put {t} {mid} {mid2} {out'} {n} same put t' d =
      let p : Put out 0 (slice s 0 header_size) mid n = rw same at put in
      let a = slice s 0 header_size in
      let b = new_table which s in
      let first : header_size ≡ 0 + length a = omega (arith, header_length which s passed) in
      let both : blocks_position s ≡ 0 + length (a ++ b) = omega (arith, front_length which s passed) in
      let room : length (a ++ b) ≤ length out = omega (arith, both, h, parts_length which s passed) in
      d ∙ rw (t', p.out_is) (three_parts out a b (all_blocks which s) header_size (blocks_position s) first both room)

pub ruleset file = (header_inside, header_room, file_put)

-- ---- `remove`; r is what the opening returned
module _ (which : Stitches) (file : List ℕ) {r : Result (List ℕ) Refusal} (asked : r ≡ opened (first_no file) file) where
  pub removal_refused : (out : List ℕ) {refusal : Refusal} → r ≡ Err refusal → RemovalReplied which file out out (Err refusal)
  removal_refused out e = replied_refused refl (open_no (first_no file) file asked e)

  module _ {s : List ℕ} (yes : r ≡ Ok s) (out : List ℕ) {size : ℕ} (is : size ≡ length (new_file which s)) where
    new_long : size ≡ length (new_file which file)
    new_long = is ∙ ap (λ (t : List ℕ). length (new_file which t)) (open_same (first_no file) file asked yes)

    pub removal_short : length out < size → RemovalReplied which file out out (Err NoRoom)
    removal_short l = replied_short refl (open_yes (first_no file) file asked yes) (omega (arith, new_long))

    pub removal_written : size ≤ length out → {out' : List ℕ} → out' ≡ splice out 0 (new_file which s) → RemovalReplied which file out out' (Ok size)
    unfolding splice
    removal_written l {out'} put =
        let z : 0 + length (new_file which file) ≡ length (new_file which file) = omega arith in
        let o : out' ≡ splice out 0 (new_file which file) = rw (open_same (first_no file) file asked yes) at put in
        replied_written refl (open_yes (first_no file) file asked yes) (omega (arith, new_long)) new_long (rw z at o)
