-- `height_check` meets its contract.
use mathlib.Core.Path.{ap, ◌∙◌}
use borrow.Author.Rules.{rules}
use Rattle.ship.specs.Layout.{decks_in}
use Rattle.decks.proofs.Opening.{was_opened}
use Rattle.calls.proofs.HeightCalls.{height_no, height_yes, height_asks}
use Rattle.calls.proofs.height_check.Goals as goal

pub returns-then-packed_polygon-polygon_count : goal.returns-then-packed_polygon-polygon_count
returns-then-packed_polygon-polygon_count c =
    let o = was_opened _ _ c.open.ensures c.in_ok-ship.was in
    let decks = c.deck_count.ensures.is.0 ∙ ap decks_in o.1 in
    let deck = rw o.1 at c.deck.ensures.is in
    height_no _ _ _ o.0 (search (decks, deck, height_asks, rules) depth 20)

pub returns : goal.returns
returns c =
    let o = was_opened _ _ c.open.ensures c.in_ok-ship.was in
    let decks = c.deck_count.ensures.is.0 ∙ ap decks_in o.1 in
    let deck = rw o.1 at c.deck.ensures.is in
    height_yes _ _ _ o.0 o.1 (search (decks, deck, height_asks, rules) depth 20)
