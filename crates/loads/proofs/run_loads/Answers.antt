-- `run_loads` meets its contract.
use mathlib.Core.Bool.{not}
use mathlib.Core.Path.{ap}
use borrow.Author.Rules.{rules}
use Rattle.loads.proofs.LoadsCall.{call_ready, loads_call}
use Rattle.answers.proofs.Asking.{handed_on}
use Rattle.loads.proofs.run_loads.Goals as goal

pub returns-in_err-ship-clause-replied : goal.returns-in_err-ship-clause-replied
returns-in_err-ship-clause-replied c = rw (handed_on c.from_residual.ensures.1) (search (c.in_err-ship.was, loads_call, rules))

pub returns-then-not-rooms_fit-clause-replied : goal.returns-then-not-rooms_fit-clause-replied
returns-then-not-rooms_fit-clause-replied c = search (c.in_ok-ship.was, loads_call, rules)

pub invariant_of-run : goal.invariant_of-run
invariant_of-run c = record { passed = search (c.in_ok-ship.was, loads_call, rules) }

-- by its paths: the search breaks off
pub put_table-requires : goal.put_table-requires
put_table-requires c =
    call_ready _ _ _ c.loads_check.ensures _ _ _ c.in_ok-ship.was c.rooms_fit.ensures (ap not c.if-not-rooms_fit.false)

pub returns-clause-replied : goal.returns-clause-replied
returns-clause-replied c = search (c.in_ok-ship.was, loads_call, rules)

pub returns-clause-surveyed : goal.returns-clause-surveyed
returns-clause-surveyed c = search (c.in_ok-ship.was, loads_call, rules)

pub returns-clause-unsearched : goal.returns-clause-unsearched
returns-clause-unsearched c = search (c.in_ok-ship.was, loads_call, rules)

pub returns-clause-totalled : goal.returns-clause-totalled
returns-clause-totalled c = search (c.in_ok-ship.was, loads_call, rules)

pub returns-clause-portioned : goal.returns-clause-portioned
returns-clause-portioned c = search (c.in_ok-ship.was, loads_call, rules)
