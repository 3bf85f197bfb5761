-- `staying_fit` meets its contract.
use Rattle.candidates.proofs.ListedNumbers.{fits_all}
use Rattle.candidates.proofs.staying_fit.Goals as goal

pub returns-then-room_for : goal.returns-then-room_for
returns-then-room_for c = fits_all _ _ _ _ _ c.args.step.now.counted c.room_for.ensures c.if-room_for.true
