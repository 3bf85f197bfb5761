-- `number` meets its contract.
use Rattle.answers.proofs.Codes.{number_is}
use Rattle.answers.proofs.Refusal.number.Goals as goal

pub returns : goal.returns
returns c = number_is c.args.self
