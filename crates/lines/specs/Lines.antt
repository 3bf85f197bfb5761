-- Document 01, section 7: the lines of `seatlist`. Fields: seat from 0, word, deck, polygon in its deck, x, y and height as hexadecimal bits
-- (height `-` if none), step, sample, tried, candidates; after `none`, tried; after `end`, placed and unplaced.
use Rattle.std.specs.Prelude.{ℕ, ◌/◌, ◌%◌, ◌^◌, cond, List, [], ◌∷◌, ◌++◌, eqb}
use Rattle.records.specs.declared.SeatRecord.{SeatRecord}
use Rattle.records.specs.Record.{is_unplaced}
use Rattle.lines.specs.Text.{decimal, hex}

-- a space before a field
abbrev pub field : List ℕ → List ℕ
field bytes = 32 ∷ bytes

-- 'placed', 'none', 'end', 'refused'
abbrev pub placed_word : List ℕ
placed_word = 112 ∷ 108 ∷ 97 ∷ 99 ∷ 101 ∷ 100 ∷ []

abbrev pub none_word : List ℕ
none_word = 110 ∷ 111 ∷ 110 ∷ 101 ∷ []

abbrev pub end_word : List ℕ
end_word = 101 ∷ 110 ∷ 100 ∷ []

abbrev pub refused_word : List ℕ
refused_word = 114 ∷ 101 ∷ 102 ∷ 117 ∷ 115 ∷ 101 ∷ 100 ∷ []

-- `-` if there is none
abbrev pub height_field : ℕ → ℕ → List ℕ
height_field kind bits = cond (eqb kind 0) (45 ∷ []) (hex bits)

unfoldable pub placed_fields : SeatRecord → List ℕ
placed_fields r =
    field placed_word
    ++ (field (decimal (r.polygon / 2 ^ 24))
    ++ (field (decimal (r.polygon % 2 ^ 24))
    ++ (field (hex r.x)
    ++ (field (hex r.y)
    ++ (field (height_field r.kind r.height)
    ++ (field (decimal r.step) ++ (field (decimal r.sample) ++ (field (decimal r.tried) ++ field (decimal r.candidates)))))))))

unfoldable pub none_fields : SeatRecord → List ℕ
none_fields r = field none_word ++ field (decimal r.tried)

-- the line of seat i, with its end
unfoldable pub seat_line : ℕ → SeatRecord → List ℕ
seat_line i r = decimal i ++ (cond (is_unplaced r) (none_fields r) (placed_fields r) ++ (10 ∷ []))

unfoldable pub end_line : ℕ → ℕ → List ℕ
end_line placed unplaced = end_word ++ (field (decimal placed) ++ (field (decimal unplaced) ++ (10 ∷ [])))

unfoldable pub refused_line : ℕ → List ℕ
refused_line number = refused_word ++ (field (decimal number) ++ (10 ∷ []))
