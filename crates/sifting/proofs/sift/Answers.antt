use borrow.Author.Rules.{rules}
use Rattle.sifting.proofs.SiftLoop.{sifting}
use Rattle.sifting.proofs.sift.Goals as goal

pub sought_count-looked_at-requires : goal.sought_count-looked_at-requires
sought_count-looked_at-requires c = search (sifting, rules)

pub polygons-init : goal.polygons-init
polygons-init c = search (sifting, rules)

pub sought-k-requires : goal.sought-k-requires
sought-k-requires c = search (sifting, rules)

pub may_pass-requires : goal.may_pass-requires
may_pass-requires c = search (sifting, rules)

pub overflow_cast-into : goal.overflow_cast-into
overflow_cast-into c = search (sifting, rules)

pub bounds-into-count : goal.bounds-into-count
bounds-into-count c = search (sifting, rules)

pub polygons-preserved-then-not-may_pass : goal.polygons-preserved-then-not-may_pass
polygons-preserved-then-not-may_pass c = search (sifting, rules)

pub polygons-preserved : goal.polygons-preserved
polygons-preserved c = search (sifting, rules)

pub returns : goal.returns
returns c = search (sifting, rules)
