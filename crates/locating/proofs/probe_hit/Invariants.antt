-- `probe_hit` meets its contract. The loop's invariant: the probes before i missed.
use Rattle.locating.proofs.Probing.{Probing}
use Rattle.locating.proofs.probe_hit.Given as goal

abbrev pub invariant-probes : goal.invariant-probes
invariant-probes l = Probing l.deck l.p l.reach l.k
