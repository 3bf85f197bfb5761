-- `take` meets its contract.
use Rattle.placing.proofs.take.Goals as goal

pub returns : goal.returns
returns c = rw c.choose.ensures
