use borrow.Author.Rules.{rules}
use Rattle.decks.proofs.PolygonTotal.{totals}
use Rattle.decks.proofs.Ship.polygons_before.Goals as goal

pub decks-init : goal.decks-init
decks-init c = search (totals, rules)

pub overflow_add-total : goal.overflow_add-total
overflow_add-total c = search (totals, rules)

pub decks-preserved : goal.decks-preserved
decks-preserved c = search (totals, rules)

pub returns : goal.returns
returns c = search (totals, rules)
