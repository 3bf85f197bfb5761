-- `count_by_midpoints` meets its contract.
use Rattle.std.proofs.Common.{rules, arith, ◌≡◌, ◌∙◌, sym, length}
use Rattle.std.specs.Prelude.{filter}
use Rattle.std.specs.List.{range_with_len}
use borrow.Author.Tests.{tests}
use Rattle.std.proofs.lemmas.Iterator.{YieldsList-from_range}
use Rattle.std.proofs.lemmas.Iterator.Consumers.{YieldsList-from_filter, count_from_yields_List}
use Rattle.numbering.proofs.NumberLoop.{numbers_length}
use Rattle.numbering.proofs.Midpoints.{stays, merged_count}
use Rattle.numbering.proofs.count_by_midpoints.Goals as goal

pub returns : goal.returns
returns c =
    let count = c.args.step.now.count in
    let search_of = c.args.step.now.search.now in
    let s = c.args.step.now.number in
    let test = stays search_of.ship.now search_of.blocked.now search_of.seat s in
    let counted : c.count.result ≡ length (filter test (range_with_len 0 count)) =
    count_from_yields_List _ _ c.count.ensures.ran
    (YieldsList-from_filter _ test (YieldsList-from_range 0 count count (search rules) (omega arith)) c.filter.ensures.closure (λ x r q k. search (rules, tests))) in
    counted
    ∙ rw (c.args.step.now.counted ∙ sym (numbers_length search_of.ship.now search_of.blocked.now search_of.seat s))
    (merged_count search_of.ship.now search_of.blocked.now search_of.seat s)
