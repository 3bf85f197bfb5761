-- The most that an input can hold that passed question 21, and the room that its text takes.
use Rattle.std.specs.Prelude.{ℕ, ◌+◌, ◌*◌, ◌/◌, ◌≤◌, List, length}
use Rattle.words.specs.Bytes.{Put}
use Rattle.records.specs.declared.SeatRecord.{SeatRecord}
use Rattle.records.specs.Record.{record_size, records_in}

-- 65,536 bytes, less a length and a blocked set, and 20 bytes a seat
abbrev pub seats_size : ℕ
seats_size = 65500

abbrev pub most_seats : ℕ
most_seats = 3275

abbrev pub records_size : ℕ
records_size = record_size * most_seats

-- 128 bytes a line, of numbers of 32 bits
abbrev pub text_size : ℕ
text_size = 128 * most_seats + 128

-- no text is longer: at most 192 bytes a line, of numbers of any size
abbrev pub longest_text : ℕ
longest_text = 192 * most_seats + 192

-- bytes that are records alone: how many, and which
abbrev pub record_count : List ℕ → ℕ
record_count s = length s / record_size

abbrev pub records_of : List ℕ → List SeatRecord
records_of s = records_in s (record_count s)

-- no more records than an input can ask for, and there is room for their lines
abbrev pub Room : List ℕ → List ℕ → Type 0
Room text records = (record_count records ≤ most_seats) × (text_size ≤ length text)

-- text with these bytes at its start, and how many there are: no more than fit
abbrev pub Written : List ℕ → List ℕ → List ℕ → ℕ → Type 0
Written text bytes text' n = Put text 0 bytes text' n × (n ≤ length text')
