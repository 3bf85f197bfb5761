-- `count_placed` meets its contract. The closure is the test of the definition.
use Rattle.std.proofs.Common.{rules, arith}
use Rattle.std.proofs.lemmas.Iterator.{YieldsList-from_range}
use Rattle.std.proofs.lemmas.Iterator.Consumers.{YieldsList-from_filter, count_from_yields_List}
use Rattle.listing.specs.Sizes.{record_count}
use Rattle.listing.proofs.Records.{placed_at, placed_counted}
use Rattle.listing.proofs.count_placed.Goals as goal

pub returns : goal.returns
returns c =
    let n = record_count c.args.records.now in
    let placed = placed_at c.args.records.now in
    placed_counted c.args.records.now n
    (count_from_yields_List c.filter.result _ c.count.ensures.ran
    (YieldsList-from_filter _ placed (YieldsList-from_range 0 n n c.filter.ensures.source (omega arith)) c.filter.ensures.closure (λ x b q k. search rules)))
