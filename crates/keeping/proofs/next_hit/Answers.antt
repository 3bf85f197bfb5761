use borrow.Author.Rules.{rules}
use Rattle.keeping.proofs.Looking.{nexts}
use Rattle.keeping.proofs.next_hit.Goals as goal

pub sought_count-count-requires : goal.sought_count-count-requires
sought_count-count-requires c = search (nexts, rules)

pub polygons-init : goal.polygons-init
polygons-init c = search (nexts, rules)

pub sought-polygon-requires : goal.sought-polygon-requires
sought-polygon-requires c = search (nexts, rules)

pub point_in_polygon-requires : goal.point_in_polygon-requires
point_in_polygon-requires c = search (nexts, rules)

pub returns-then-point_in_polygon : goal.returns-then-point_in_polygon
returns-then-point_in_polygon c = search (nexts, rules)

pub polygons-preserved-then-polygon-k : goal.polygons-preserved-then-polygon-k
polygons-preserved-then-polygon-k c = search (nexts, rules)

pub polygons-preserved : goal.polygons-preserved
polygons-preserved c = search (nexts, rules)

pub returns : goal.returns
returns c = search (nexts, rules)
