-- `height` meets its contract.
use borrow.Author.Rules.{rules}
use Rattle.calls.proofs.HeightCalls.{height_replies}
use Rattle.answers.proofs.Asking.{handed_on}
use Rattle.decks.proofs.Opening.{open_no, was_opened}
use Rattle.calls.proofs.height.Goals as goal

pub returns-in_err-ship : goal.returns-in_err-ship
returns-in_err-ship c =
    search (open_no _ _ c.height_check.ensures c.in_err-ship.was, handed_on c.from_residual.ensures.1, height_replies, rules)

pub height_asked-requires : goal.height_asked-requires
height_asked-requires c =
    let o = was_opened _ _ c.height_check.ensures c.in_ok-ship.was in
    rw o.1 o.0

pub returns-then-out-lt4 : goal.returns-then-out-lt4
returns-then-out-lt4 c =
    let o = was_opened _ _ c.height_check.ensures c.in_ok-ship.was in
    let asked = rw o.1 at c.height_asked.ensures.0 in
    search (o.0, asked, height_replies, rules)

pub put_f32-requires : goal.put_f32-requires
put_f32-requires c = search (height_replies, rules)

pub returns-in-None : goal.returns-in-None
returns-in-None c =
    let o = was_opened _ _ c.height_check.ensures c.in_ok-ship.was in
    let asked = rw o.1 at c.height_asked.ensures.0 in
    search (o.0, asked, height_replies, rules)

pub returns-else-out-lt4 : goal.returns-else-out-lt4
returns-else-out-lt4 c =
    let o = was_opened _ _ c.height_check.ensures c.in_ok-ship.was in
    let asked = rw o.1 at c.height_asked.ensures.0 in
    search (o.0, asked, height_replies, rules)
