-- `read_full` meets its contract. The loop's invariant: of the input the n bytes are consumed that stand at the buffer's start.
use Rattle.std.proofs.Common.{◌≡◌, ◌-◌, ◌≤◌, length, take}
use Rattle.std.specs.Io.KnownBytes.{Consumes}
use Rattle.reading.proofs.read_full.Given as goal

abbrev pub invariant-reads : goal.invariant-reads
invariant-reads g l = (length l.buffer ≡ length l.initial.buffer) × (l.n ≤ length l.buffer)
    × Consumes (g.R.Read.remaining l.initial.input) (g.R.Read.remaining l.input) (take l.n l.buffer)

abbrev pub decreases-reads : goal.decreases-reads
decreases-reads g l = length l.buffer - l.n
