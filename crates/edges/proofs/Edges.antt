-- The table of document 01, 'Edges of the behaviour', proved as a whole: each row by computing.
use mathlib.Core.Path.{refl}
use lib.Ieee.{of_bits, of_int, round, neg, add, sub, mul, lt, le, eq, sum, units, odd, size, climb, span, of_fields}
use Rattle.geometry.specs.Plane.{side_of, in_range, in_bounding_box}
use Rattle.geometry.specs.Polygon.{edge_test_of, edges_from, point_in_polygon}
use Rattle.words.specs.Rows.{rows, some, has}
use Rattle.ship.specs.Model.{neighbours_of, corners_of}
use Rattle.islands.specs.Labels.{first, through, label_by, labels_by}
use Rattle.islands.specs.Islands.{names, deck_labels}
use Rattle.unstitched.specs.Removal.{keeps, written_as, kept_of, removed}
use Rattle.edges.specs.Table.{EdgesOfTheBehaviour}

pub edges_of_the_behaviour : EdgesOfTheBehaviour
unfolding point_in_polygon edges_from edge_test_of in_bounding_box in_range side_of of_int of_bits add sub mul lt le eq round sum neg units odd size climb span of_fields rows some has neighbours_of corners_of first through label_by labels_by names deck_labels keeps written_as kept_of removed
edges_of_the_behaviour =
    record {
      inside = refl;
      on_an_edge = refl;
      outside = refl;
      just_outside = refl;
      too_far_outside = refl;
      turned_round = refl;
      one_vertex = refl;
      two_vertices = refl;
      off_their_line = refl;
      deck_of_packed = refl;
      polygon_of_packed = refl;
      packed = refl;
      removed_once = refl;
      removed_twice = refl;
      islands = refl;
    }
