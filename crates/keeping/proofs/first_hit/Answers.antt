use borrow.Author.Rules.{rules}
use Rattle.keeping.proofs.Looking.{turns}
use Rattle.keeping.proofs.first_hit.Goals as goal

pub sought_count-count-requires : goal.sought_count-count-requires
sought_count-count-requires c = search (turns, rules)

pub returns-then-count-eq0 : goal.returns-then-count-eq0
returns-then-count-eq0 c = search (turns, rules)

pub samples-init : goal.samples-init
samples-init c = search (turns, rules)

pub polygons-init : goal.polygons-init
polygons-init c = search (turns, rules)

pub sought-polygon-requires : goal.sought-polygon-requires
sought-polygon-requires c = search (turns, rules)

pub point_in_polygon-requires : goal.point_in_polygon-requires
point_in_polygon-requires c = search (turns, rules)

pub polygons-preserved : goal.polygons-preserved
polygons-preserved c = search (turns, rules)

pub samples-preserved : goal.samples-preserved
samples-preserved c = search (turns, rules)

pub returns-then-point_in_polygon : goal.returns-then-point_in_polygon
returns-then-point_in_polygon c = search (turns, rules)

pub returns-then-i-samples : goal.returns-then-i-samples
returns-then-i-samples c = search (turns, rules)
