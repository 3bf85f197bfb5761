-- `remove_stitches_to_layer` meets its contract.
use borrow.Author.Rules.{rules}
use Rattle.unstitched.proofs.SoundRemoval.{removal_sound}
use Rattle.removal.proofs.remove_stitches_to_layer.Goals as goal

pub returns-clause-sound : goal.returns-clause-sound
returns-clause-sound c = search (removal_sound, rules)
