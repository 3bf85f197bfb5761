use borrow.Author.Rules.{rules}
use Rattle.loads.proofs.CountLoop.{counting_ready, counting}
use Rattle.loads.proofs.put_counts.Goals as goal

pub count_seat-requires : goal.count_seat-requires
count_seat-requires c =
    let loop = c.seats.invariant in
    counting_ready loop.1.1 loop.1.0 c.seats-test.true c.args.run.now.passed c.put_seat-record.ensures.recorded.0 c.of-places.ensures loop.0

pub seats-preserved : goal.seats-preserved
seats-preserved c = search (c.args.run.now.passed, c.of-places.ensures, counting, rules)

pub returns : goal.returns
returns c = search (counting, rules)
