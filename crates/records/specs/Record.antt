-- Document 01, section 7: the record of a seat, nine numbers of four bytes each.
use Rattle.std.specs.Prelude.{ℕ, ◌+◌, ◌*◌, Bool, List, [], ◌∷◌, ◌++◌, eqb, take, drop, replicate}
use Rattle.words.specs.Bytes.{all_ones, u32_at, joined, words_of}
use Rattle.words.specs.Rows.{rows}
use Rattle.records.specs.declared.SeatRecord.{SeatRecord}

abbrev pub record_size : ℕ
record_size = 36

-- in the record's order: packed polygon, x, y, kind, height, step, sample, tried, candidates
abbrev pub record_words : SeatRecord → List ℕ
record_words r =
    r.polygon ∷ r.x ∷ r.y ∷ r.kind ∷ r.height ∷ r.step ∷ r.sample ∷ r.tried ∷ r.candidates ∷ []

unfoldable pub record_bytes : SeatRecord → List ℕ
record_bytes r = words_of (record_words r)

-- the records of a list, one after the other
abbrev pub records_bytes : List SeatRecord → List ℕ
records_bytes records = joined record_bytes records

-- ---- read back
-- number k of record i
abbrev pub word_at : List ℕ → ℕ → ℕ → ℕ
word_at s i k = u32_at s (record_size * i + 4 * k)

unfoldable pub record_at : List ℕ → ℕ → SeatRecord
record_at s i =
    record {
      polygon = word_at s i 0;
      x = word_at s i 1;
      y = word_at s i 2;
      kind = word_at s i 3;
      height = word_at s i 4;
      step = word_at s i 5;
      sample = word_at s i 6;
      tried = word_at s i 7;
      candidates = word_at s i 8;
    }

-- the first n records of some bytes
abbrev pub records_in : List ℕ → ℕ → List SeatRecord
records_in s n = rows (record_at s) 0 n

-- the bytes of record i
abbrev pub record_slice : List ℕ → ℕ → List ℕ
record_slice s i = take record_size (drop (record_size * i) s)

-- ---- unplaced: all ones, then zeros except samples tried
abbrev pub unplaced_record : ℕ → SeatRecord
unplaced_record tried =
    record { polygon = all_ones; x = 0; y = 0; kind = 0; height = 0; step = 0; sample = 0; tried = tried; candidates = 0 }

-- its bytes with nothing tried: all ones, then eight zeros
abbrev pub untried_bytes : List ℕ
untried_bytes = replicate 4 255 ++ replicate 32 0

abbrev pub is_unplaced : SeatRecord → Bool
is_unplaced r = eqb r.polygon all_ones
