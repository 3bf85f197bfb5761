-- `place_seat` meets its contract.
use Rattle.placing.proofs.StepLoop.{lists_ready}
use Rattle.placing.proofs.place_seat.Goals as goal

pub sift_decks-requires : goal.sift_decks-requires
sift_decks-requires c = lists_ready c.requires.0 c.requires.1

pub invariant_of-search : goal.invariant_of-search
invariant_of-search c = record { ready = record { file_passed = c.sift_decks.ensures.passed; search_ready = c.requires.0; sifted = c.sift_decks.ensures.sifted } }

pub returns : goal.returns
returns c = (c.search_steps.ensures, c.sift_decks.ensures.sifted)
