-- Document 01, section 7: the record of a placed seat, for the candidate that it takes.
use Rattle.std.specs.Prelude.{ℕ, ◌+◌, ◌*◌, ◌^◌}
use Rattle.std.specs.Float.{binary32}
use Rattle.std.specs.Float.Ieee.{to_bits}
use Rattle.geometry.specs.declared.Vec2.{Vec2}
use Rattle.geometry.specs.declared.Height.{Height}
use Rattle.geometry.specs.declared.Height.TheVariants.{Known, None}
use Rattle.records.specs.declared.SeatRecord.{SeatRecord}
use Rattle.hits.specs.declared.Candidate.{Candidate}
use Rattle.survey.specs.View.{Shown}

-- kind: 1 if it has a height; height or 0
abbrev pub height_kind : Height → ℕ
height_kind None = 0
height_kind (Known h) = 1

abbrev pub height_bits : Height → ℕ
height_bits None = 0
height_bits (Known h) = to_bits binary32 h

-- the candidate c, which lies at a place, with the height there
abbrev pub record_at_place : Candidate → Vec2 → Height → ℕ → ℕ → SeatRecord
record_at_place c place height tried count =
    record {
      polygon = c.deck * 2 ^ 24 + c.polygon;
      x = to_bits binary32 place.x;
      y = to_bits binary32 place.y;
      kind = height_kind height;
      height = height_bits height;
      step = c.step;
      sample = c.sample;
      tried = tried;
      candidates = count;
    }

-- a seat placed at c
abbrev pub placed_record : Shown → Candidate → ℕ → ℕ → SeatRecord
placed_record w c tried count = record_at_place c (w.place c) (w.height c) tried count
