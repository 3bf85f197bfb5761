-- The numbers of a step in a list of bytes: what is read back, what the merging of the list needs, and what stands there after it.
use Prim.Native.Nat.{ℕ, ◌+◌, ◌*◌, ◌≤◌, ◌<◌}
use native.Mathlib.Omega.{arith}
use mathlib.Core.Path.{◌≡◌, sym, ◌∙◌}
use mathlib.Core.Bool.{Bool, true}
use mathlib.Core.List.{List}
use lib.ListN.{length, get_or, drop}
use lib.Seq.{ext_get_or}
use Rattle.words.specs.Bytes.{words_of, splice, number_at}
use Rattle.words.proofs.TableRows.{length_rows, get_d_rows}
use Rattle.words.proofs.Splice.{length_splice}
use Rattle.words.proofs.Numbers.{length_words, splice_front, words_read}
use Rattle.answers.specs.Questions.{question20}
use Rattle.answers.proofs.Asking.{q20_fits, q20_yes}
use Rattle.ship.specs.Layout.{number_size}
use Rattle.ship.specs.Decode.{decode}
use Rattle.survey.specs.declared.Seat.{Seat}
use Rattle.survey.specs.Search.{candidates}
use Rattle.walking.specs.Sees.{seen_by}
use Rattle.walking.specs.Lists.{WalkReady}
use Rattle.walking.proofs.Walks.{walk_passed}
use Rattle.touching.specs.Touching.{touches}
use Rattle.touching.proofs.Reaching.{merged_few}
use Rattle.merging.specs.Merging.{numbers_in, ListReady, ListMerged}
use Rattle.numbering.specs.Numbers.{step_numbers, step_merged}
use Rattle.numbering.proofs.Numbers.{number_there, numbers_rise}
use Rattle.numbering.proofs.NumberLoop.{numbers_length}
use Rattle.candidates.specs.Written.{NumbersMerged}

-- ---- numbers read back
module _ (list xs : List ℕ) {list' : List ℕ} (put : list' ≡ splice list 0 (words_of xs)) where
  number_back : (k : ℕ) → k < length xs → number_at list' k ≡ get_or xs k 0
  number_back k h = rw (put, splice_front list (words_of xs)) (words_read xs (drop (length (words_of xs)) list) k h)

  numbers_back : numbers_in list' (length xs) ≡ xs
  numbers_back =
      let l = length_rows (number_at list') (length xs) 0 in
      ext_get_or 0 (numbers_in list' (length xs)) xs l
      (λ k h.
      let e : 0 + k ≡ k = omega arith in
      let b : k < length xs = omega arith in
      get_d_rows (number_at list') (length xs) 0 k 0 b ∙ rw e (number_back k b))

-- ---- `merge_numbers`
module _ (s : ℕ) {file blocked : List ℕ} {seat : Seat} {count : ℕ} (list : List ℕ) {list' array : List ℕ}
    (ready : WalkReady file blocked seat array) (counted : count ≡ length (candidates (seen_by file blocked seat) s))
    (fits : number_size * count ≤ length list) (put : list' ≡ splice list 0 (words_of (step_numbers file blocked seat s))) where
  counts : count ≡ length (step_numbers file blocked seat s)
  counts = counted ∙ sym (numbers_length file blocked seat s)

  listed_long : length list' ≡ length list
  listed_long =
      rw put (length_splice list 0 (words_of (step_numbers file blocked seat s)) (omega (arith, fits, counts, length_words (step_numbers file blocked seat s))))

  pub listed_ready : ListReady file list' count
  listed_ready =
      let passed = walk_passed ready in
      let n = counts in
      let back = number_back list (step_numbers file blocked seat s) put in
      record {
        room = omega (arith, fits, listed_long);
        there = λ k h. rw (back k (omega arith)) (number_there file blocked seat s k (omega arith) passed);
        rising = λ j k h m. rw (back j (omega arith), back k (omega arith)) (numbers_rise file blocked seat s passed j k h (omega arith));
      }

  pub listed_merged : {list'' : List ℕ} {r : ℕ} → ListMerged file list' list'' count r → NumbersMerged (step_merged file blocked seat s) list list'' r
  listed_merged m =
      let e : numbers_in list' count ≡ step_numbers file blocked seat s = rw counts (numbers_back list (step_numbers file blocked seat s) put) in
      record { count = m.count ∙ rw e; first = m.first ∙ rw e; long = m.long ∙ listed_long }

-- ---- `staying_fit`
module _ (file blocked : List ℕ) (seat : Seat) (s room : ℕ) where
  pub fits_all : {count : ℕ} {r : Bool} → count ≡ length (candidates (seen_by file blocked seat) s) → r ≡ question20 (number_size * count) room → r ≡ true
      → true ≡ question20 (number_size * length (step_merged file blocked seat s)) room
  fits_all {count} n e t =
      let l = q20_fits (number_size * count) room (sym e ∙ t) in
      sym
      (q20_yes (number_size * length (step_merged file blocked seat s)) room
      (omega (arith, n, numbers_length file blocked seat s, merged_few (touches (decode file)) (step_numbers file blocked seat s))))
