-- Boxes about a square of side 4, as definitions evaluated. Its edges run along +x, +y, -x and -y, so that each sign of a component is met.
use mathlib.Core.Path.{◌≡◌, refl}
use mathlib.Core.Bool.{true, false}
use mathlib.Core.List.{List, [], ◌∷◌}
use lib.IntN.{ℤ, pos, negsuc}
use lib.Ieee.{binary32, of_bits, of_int, round, neg, add, sub, mul, lt, le, eq}
use Rattle.geometry.specs.declared.Vec2.{Vec2}
use Rattle.boxes.specs.declared.BoundingBox.{BoundingBox}
use Rattle.boxes.specs.declared.BoxTest.TheVariants.{Never, Next, Maybe}
use Rattle.boxes.specs.Box.{largest_cross, is_apart, box_test_of, may_pass_from, may_pass}
use Rattle.boxes.specs.StepBox.{step_box}

abbrev at : ℤ → ℤ → Vec2
at x y = record { x = of_int binary32 x; y = of_int binary32 y }

-- from (x, y) to (x', y')
abbrev box : ℤ → ℤ → ℤ → ℤ → BoundingBox
box x y x' y' = record { low = at x y; high = at x' y' }

abbrev square : List Vec2
square = at (pos 0) (pos 0) ∷ at (pos 4) (pos 0) ∷ at (pos 4) (pos 4) ∷ at (pos 0) (pos 4) ∷ []

-- the top edge, whose x component is negative: a box above it, one across it, one below it, one beside it, and one that touches it from below
top_edge :
    box_test_of (box (pos 1) (pos 5) (pos 3) (pos 6)) (at (pos 4) (pos 4)) (at (pos 0) (pos 4))
    ∷ box_test_of (box (pos 1) (pos 3) (pos 3) (pos 6)) (at (pos 4) (pos 4)) (at (pos 0) (pos 4))
    ∷ box_test_of (box (pos 1) (pos 1) (pos 3) (pos 3)) (at (pos 4) (pos 4)) (at (pos 0) (pos 4))
    ∷ box_test_of (box (pos 5) (pos 3) (pos 6) (pos 6)) (at (pos 4) (pos 4)) (at (pos 0) (pos 4))
    ∷ box_test_of (box (pos 1) (pos 1) (pos 3) (pos 4)) (at (pos 4) (pos 4)) (at (pos 0) (pos 4))
    ∷ []
    ≡ Never ∷ Maybe ∷ Next ∷ Next ∷ Maybe ∷ []
unfolding box_test_of largest_cross is_apart of_int of_bits add sub mul lt le eq round neg
top_edge = refl

-- the left edge, whose y component is negative, and the same five boxes about it
left_edge :
    box_test_of (box (negsuc 1) (pos 1) (negsuc 0) (pos 3)) (at (pos 0) (pos 4)) (at (pos 0) (pos 0))
    ∷ box_test_of (box (negsuc 1) (pos 1) (pos 1) (pos 3)) (at (pos 0) (pos 4)) (at (pos 0) (pos 0))
    ∷ box_test_of (box (pos 1) (pos 1) (pos 3) (pos 3)) (at (pos 0) (pos 4)) (at (pos 0) (pos 0))
    ∷ box_test_of (box (negsuc 1) (pos 5) (pos 1) (pos 6)) (at (pos 0) (pos 4)) (at (pos 0) (pos 0))
    ∷ box_test_of (box (pos 0) (pos 1) (pos 3) (pos 3)) (at (pos 0) (pos 4)) (at (pos 0) (pos 0))
    ∷ []
    ≡ Never ∷ Maybe ∷ Next ∷ Next ∷ Maybe ∷ []
unfolding box_test_of largest_cross is_apart of_int of_bits add sub mul lt le eq round neg
left_edge = refl

-- boxes to the right of the square, above it, to its left, below it and far off a corner; one that touches it, one inside it and one around it
about_the_square :
    may_pass (box (pos 5) (pos 1) (pos 7) (pos 3)) square
    ∷ may_pass (box (pos 1) (pos 5) (pos 3) (pos 7)) square
    ∷ may_pass (box (negsuc 2) (pos 1) (negsuc 0) (pos 3)) square
    ∷ may_pass (box (pos 1) (negsuc 2) (pos 3) (negsuc 0)) square
    ∷ may_pass (box (pos 900) (pos 900) (pos 1000) (pos 1000)) square
    ∷ may_pass (box (pos 4) (pos 4) (pos 7) (pos 7)) square
    ∷ may_pass (box (pos 1) (pos 1) (pos 3) (pos 3)) square
    ∷ may_pass (box (negsuc 0) (negsuc 0) (pos 5) (pos 5)) square
    ∷ []
    ≡ false ∷ false ∷ false ∷ false ∷ false ∷ true ∷ true ∷ true ∷ []
unfolding may_pass may_pass_from box_test_of largest_cross is_apart of_int of_bits add sub mul lt le eq round neg
about_the_square = refl

-- a reach of 2: step 0 has the point alone, and step 3 goes 6 to each side
steps : (step_box (at (pos 1) (negsuc 0)) (of_int binary32 (pos 2)) 0 ≡ box (pos 1) (negsuc 0) (pos 1) (negsuc 0))
    × (step_box (at (pos 1) (negsuc 0)) (of_int binary32 (pos 2)) 3 ≡ box (negsuc 4) (negsuc 6) (pos 7) (pos 5))
unfolding step_box of_int add sub mul round neg
steps = (refl, refl)
