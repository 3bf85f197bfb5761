-- Document 01, section 8: the nine probes around p, fixed multiples of the reach, in this order.
use Rattle.std.specs.Prelude.{ℕ, List, [], ◌∷◌, get_or, Float}
use Rattle.std.specs.Float.{binary32}
use Rattle.std.specs.Float.Ieee.{add, mul, of_bits}
use Rattle.geometry.specs.declared.Vec2.{Vec2}

-- 0, 1 and -1 by their bit patterns
abbrev pub none : Float
none = of_bits binary32 0

abbrev pub plus : Float
plus = of_bits binary32 0x3f800000

abbrev pub minus : Float
minus = of_bits binary32 0xbf800000

abbrev pub multiple : Float → Float → List Float
multiple x y = x ∷ y ∷ []

-- (0,0) (1,0) (1,1) (0,1) (-1,1) (-1,0) (-1,-1) (0,-1) (1,-1)
unfoldable pub probes : List (List Float)
probes =
    multiple none none
    ∷ multiple plus none
    ∷ multiple plus plus
    ∷ multiple none plus
    ∷ multiple minus plus
    ∷ multiple minus none
    ∷ multiple minus minus
    ∷ multiple none minus
    ∷ multiple plus minus
    ∷ []

abbrev pub probe_of : Vec2 → Float → ℕ → Vec2
probe_of p reach k =
    record {
      x = add binary32 p.x (mul binary32 (get_or (get_or probes k []) 0 none) reach);
      y = add binary32 p.y (mul binary32 (get_or (get_or probes k []) 1 none) reach);
    }
