use Rattle.std.proofs.Common.{◌-◌, rules, length}
use Rattle.std.proofs.KnownBytes.{Consumes-trans}
use Rattle.reading.proofs.Parts.{front_after}
use Rattle.reading.proofs.read_full.Goals as goal

-- what was consumed before and what this read consumed are, one after the other, the front of the buffer
pub reads-preserved : goal.reads-preserved
reads-preserved g c =
    let consumed = Consumes-trans _ _ _ _ _ c.reads.invariant.2 c.in_ok-more.ensures.bytes.0 in
    let room = length c.reads.buffer - c.reads.n in
    let front = front_after c.reads.n room c.in_ok-more.more c.reads.buffer c.read.new.buf c.reads.invariant.1 c.in_ok-more.ensures.bound.0 in
    (search rules, search rules, rw front consumed)
