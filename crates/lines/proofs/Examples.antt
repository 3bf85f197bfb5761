-- Numbers, the document's lines, and the least input, as definitions evaluated.
use mathlib.Core.Path.{◌≡◌, refl}
use mathlib.Core.Bool.{true, false}
use mathlib.Core.List.{[], ◌∷◌}
use lib.ListN.{replicate}
use Rattle.words.specs.Bytes.{u32_at}
use Rattle.records.specs.declared.SeatRecord.{SeatRecord}
use Rattle.records.specs.Record.{unplaced_record}
use Rattle.lines.specs.Text.{decimal_from, decimal, hex_from, hex}
use Rattle.lines.specs.Lines.{none_fields, placed_fields, seat_line, end_line, refused_line}
use Rattle.lines.specs.Input.{question21}

-- '0', '1216', '3F800000'
decimal_0 : decimal 0 ≡ 48 ∷ []
unfolding decimal decimal_from
decimal_0 = refl

decimal_1216 : decimal 1216 ≡ 49 ∷ 50 ∷ 49 ∷ 54 ∷ []
unfolding decimal decimal_from
decimal_1216 = refl

decimal_largest : decimal 0xFFFF_FFFF ≡ 52 ∷ 50 ∷ 57 ∷ 52 ∷ 57 ∷ 54 ∷ 55 ∷ 50 ∷ 57 ∷ 53 ∷ []
unfolding decimal decimal_from
decimal_largest = refl

hex_one : hex 0x3F80_0000 ≡ 51 ∷ 70 ∷ 56 ∷ 48 ∷ 48 ∷ 48 ∷ 48 ∷ 48 ∷ []
unfolding hex hex_from
hex_one = refl

-- the first seat of the document's example
abbrev placed : SeatRecord
placed =
    record { polygon = 0; x = 0x3F80_0000; y = 0x3F80_0000; kind = 1; height = 0x4000_0000; step = 0; sample = 0; tried = 1; candidates = 1 }

-- `0 placed 0 0 3F800000 3F800000 40000000 0 0 1 1`
placed_line :
    seat_line 0 placed
    ≡ 48 ∷ 32 ∷ 112 ∷ 108 ∷ 97 ∷ 99 ∷ 101 ∷ 100 ∷ 32 ∷ 48 ∷ 32 ∷ 48 ∷ 32 ∷ 51 ∷ 70 ∷ 56 ∷ 48 ∷ 48 ∷ 48 ∷ 48 ∷ 48 ∷ 32 ∷ 51 ∷ 70 ∷ 56 ∷ 48 ∷ 48 ∷ 48 ∷ 48 ∷ 48 ∷ 32 ∷ 52 ∷ 48 ∷ 48 ∷ 48 ∷ 48 ∷ 48 ∷ 48 ∷ 48 ∷ 32 ∷ 48 ∷ 32 ∷ 48 ∷ 32 ∷ 49 ∷ 32 ∷ 49 ∷ 10 ∷ []
unfolding seat_line none_fields placed_fields decimal decimal_from hex hex_from
placed_line = refl

-- `1 none 12`
none_line : seat_line 1 (unplaced_record 12) ≡ 49 ∷ 32 ∷ 110 ∷ 111 ∷ 110 ∷ 101 ∷ 32 ∷ 49 ∷ 50 ∷ 10 ∷ []
unfolding seat_line none_fields placed_fields decimal decimal_from hex hex_from
none_line = refl

-- `end 1 1`, `refused 21`
end_line_lem : end_line 1 1 ≡ 101 ∷ 110 ∷ 100 ∷ 32 ∷ 49 ∷ 32 ∷ 49 ∷ 10 ∷ []
unfolding end_line decimal decimal_from
end_line_lem = refl

refused_line_lem : refused_line 21 ≡ 114 ∷ 101 ∷ 102 ∷ 117 ∷ 115 ∷ 101 ∷ 100 ∷ 32 ∷ 50 ∷ 49 ∷ 10 ∷ []
unfolding refused_line decimal decimal_from
refused_line_lem = refl

-- a file of no bytes, with its length and 32 bytes more
least_input : (question21 (replicate 36 0) ≡ true) × (question21 (replicate 35 0) ≡ false)
unfolding question21 u32_at
least_input = (refl, refl)
