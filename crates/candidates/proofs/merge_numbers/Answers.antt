-- `merge_numbers` meets its contract.
use native.Mathlib.Omega.{arith}
use Rattle.numbering.proofs.NumberLoop.{numbers_length}
use Rattle.candidates.proofs.ListedNumbers.{listed_ready, listed_merged}
use Rattle.candidates.proofs.merge_numbers.Goals as goal

pub put_numbers-requires : goal.put_numbers-requires
put_numbers-requires c =
    let step = c.args.step.now in
    let search_of = step.search.now in
    (step.there, omega (arith, step.counted, numbers_length search_of.ship.now search_of.blocked.now search_of.seat step.number, c.requires))

pub merge_touching_readings-requires : goal.merge_touching_readings-requires
merge_touching_readings-requires c =
    listed_ready _ _ c.args.step.now.search.now.ready c.args.step.now.counted c.requires c.put_numbers.ensures

pub returns : goal.returns
returns c =
    listed_merged _ _ c.args.step.now.search.now.ready c.args.step.now.counted c.requires c.put_numbers.ensures c.merge_touching_readings.ensures
