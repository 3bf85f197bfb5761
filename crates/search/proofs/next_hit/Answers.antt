use borrow.Author.Rules.{rules}
use Rattle.search.proofs.PolygonLoop.{nexts}
use Rattle.search.proofs.next_hit.Goals as goal

pub polygons-init : goal.polygons-init
polygons-init c = search (nexts, rules)

pub returns-then-point_in_polygon : goal.returns-then-point_in_polygon
returns-then-point_in_polygon c = search (nexts, rules)

pub returns : goal.returns
returns c = search (nexts, rules)
