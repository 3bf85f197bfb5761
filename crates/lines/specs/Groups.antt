-- The fields of a line in groups, each added by one function.
use Rattle.std.specs.Prelude.{ℕ, ◌/◌, ◌%◌, ◌^◌, cond, List, ◌++◌}
use Rattle.records.specs.declared.SeatRecord.{SeatRecord}
use Rattle.records.specs.Record.{is_unplaced}
use Rattle.lines.specs.Text.{decimal, hex}
use Rattle.lines.specs.Lines.{field, height_field, placed_fields, none_fields}

abbrev pub polygon_fields : ℕ → List ℕ
polygon_fields polygon = field (decimal (polygon / 2 ^ 24)) ++ field (decimal (polygon % 2 ^ 24))

abbrev pub point_fields : SeatRecord → List ℕ
point_fields r = field (hex r.x) ++ (field (hex r.y) ++ field (height_field r.kind r.height))

abbrev pub count_fields : SeatRecord → List ℕ
count_fields r = field (decimal r.step) ++ (field (decimal r.sample) ++ (field (decimal r.tried) ++ field (decimal r.candidates)))

-- what follows the seat's number
abbrev pub seat_fields : SeatRecord → List ℕ
seat_fields r = cond (is_unplaced r) (none_fields r) (placed_fields r)
