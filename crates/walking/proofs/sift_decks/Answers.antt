use mathlib.Core.Path.{◌∙◌}
use borrow.Author.Rules.{rules}
use Rattle.walking.proofs.Sifts.{deck_few, list_room, list_place, list_rest, list_long, one_list_more}
use Rattle.walking.proofs.sift_decks.Goals as goal

pub put_list-requires : goal.put_list-requires
put_list-requires c =
    let below = c.decks.invariant.1.1 in
    let list = c.deck_list-count.ensures in
    (list_room below (search rules) list, (deck_few below (search rules), (list_place below (search rules) list, list_rest below (search rules) list)))

pub decks-preserved : goal.decks-preserved
decks-preserved c =
    let below = c.decks.invariant.1.1 in
    let list = c.deck_list-count.ensures in (
      search rules,
      (list_long below (search rules) list c.put_list.ensures ∙ c.decks.invariant.1.0, one_list_more below (search rules) list c.put_list.ensures),
    )
