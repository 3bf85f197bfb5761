-- Records as bytes: each has `record_size` of them, and what is read back is what was written.
use Prim.Native.Nat.{ℕ, zero, suc, ◌+◌, ◌*◌, ◌<◌}
use native.Mathlib.Omega.{arith}
use native.Mathlib.Nat.{add_assoc}
use mathlib.Core.Path.{◌≡◌, refl, sym, ap, ◌∙◌}
use mathlib.Core.List.{List, [], ◌∷◌, ◌++◌, append_assoc}
use lib.ListN.{length, get_or, drop}
use lib.Seq.{take_at, drop-append-add, get_or-take, get_or-drop, ext_get_or}
use Rattle.words.specs.Bytes.{u32_at, bytes4, joined}
use Rattle.words.proofs.Writing.{length_joined}
use Rattle.words.proofs.Numbers.{length_words, word_back}
use Rattle.words.proofs.TableRows.{length_rows, get_d_rows}
use Rattle.records.specs.declared.SeatRecord.{SeatRecord}
use Rattle.records.specs.Record.{record_size, record_words, record_bytes, records_bytes, word_at, record_at, records_in, record_slice, unplaced_record, untried_bytes}

-- ---- the bytes of a seat that is not searched for
pub untried : record_bytes (unplaced_record 0) ≡ untried_bytes
unfolding record_bytes joined bytes4
untried = refl

-- ---- lengths
pub record_length : (r : SeatRecord) → length (record_bytes r) ≡ record_size
unfolding record_bytes
record_length r = length_words (record_words r)

pub records_length : (rs : List SeatRecord) → length (records_bytes rs) ≡ record_size * length rs
records_length rs = length_joined record_bytes record_size record_length rs

-- ---- the bytes of record i
-- stands for a record that is not there
abbrev pub no_record : SeatRecord
no_record = unplaced_record 0

pub slice_written : (rs : List SeatRecord) (rest : List ℕ) (i : ℕ) → i < length rs → record_slice (records_bytes rs ++ rest) i ≡ record_bytes (get_or rs i no_record)
unfolding joined
slice_written [] rest i h = absurd (omega arith)
slice_written (r ∷ rs) rest zero h = rw append_assoc (take_at (record_bytes r) (records_bytes rs ++ rest) record_size (record_length r))
slice_written (r ∷ rs) rest (suc i) h =
    let e : record_size * suc i ≡ length (record_bytes r) + record_size * i = omega (arith, record_length r) in
    rw (append_assoc, e, drop-append-add) (slice_written rs rest i (omega arith))

-- ---- a record is read from its bytes
record_back : (r : SeatRecord) → record_at (record_bytes r) 0 ≡ r
unfolding record_at record_bytes joined bytes4 u32_at
record_back r =
    λ j. record {
      polygon = word_back r.polygon j;
      x = word_back r.x j;
      y = word_back r.y j;
      kind = word_back r.kind j;
      height = word_back r.height j;
      step = word_back r.step j;
      sample = word_back r.sample j;
      tried = word_back r.tried j;
      candidates = word_back r.candidates j;
    }

byte_read : (s : List ℕ) (i k : ℕ) → k < record_size → get_or (record_slice s i) k 0 ≡ get_or s (record_size * i + k) 0
byte_read s i k h = get_or-take record_size (drop (record_size * i) s) k 0 h ∙ get_or-drop (record_size * i) s k 0

word_read : (s : List ℕ) (i k : ℕ) → k < 9 → u32_at (record_slice s i) (4 * k) ≡ word_at s i k
unfolding u32_at
word_read s i k h =
    rw (byte_read s i (4 * k) (omega arith), byte_read s i (4 * k + 1) (omega arith), byte_read s i (4 * k + 2) (omega arith), byte_read s i (4 * k + 3) (omega arith))
    (simp add_assoc)

record_read : (s : List ℕ) (i : ℕ) → record_at (record_slice s i) 0 ≡ record_at s i
unfolding record_at
record_read s i =
    rw (
      word_read s i 0 (omega arith),
      word_read s i 1 (omega arith),
      word_read s i 2 (omega arith),
      word_read s i 3 (omega arith),
      word_read s i 4 (omega arith),
      word_read s i 5 (omega arith),
      word_read s i 6 (omega arith),
      word_read s i 7 (omega arith),
      word_read s i 8 (omega arith),
    )

module _ (rs : List SeatRecord) (rest : List ℕ) where
  pub record_written : (i : ℕ) → i < length rs → record_at (records_bytes rs ++ rest) i ≡ get_or rs i no_record
  record_written i h =
      sym (record_read (records_bytes rs ++ rest) i)
      ∙ ap (λ (s : List ℕ). record_at s 0) (slice_written rs rest i h)
      ∙ record_back (get_or rs i no_record)

  pub records_written : records_in (records_bytes rs ++ rest) (length rs) ≡ rs
  records_written =
      let n = length rs in
      let s = records_bytes rs ++ rest in
      let l = length_rows (record_at s) n 0 in
      ext_get_or no_record (records_in s n) rs l
      (λ i h. let e : 0 + i ≡ i = omega arith in
      let k : i < n = omega arith in
      get_d_rows (record_at s) n 0 i no_record k ∙ rw e (record_written i k))
