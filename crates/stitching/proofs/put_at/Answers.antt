use borrow.Author.Rules.{rules}
use Rattle.stitching.proofs.Loops.{at_vertices}
use Rattle.stitching.proofs.put_at.Goals as goal
use Rattle.stitching.proofs.put_at.Goals.{then-eq, else-eq}

pub vertices-init : goal.vertices-init
vertices-init c = search (at_vertices, rules)

pub vertices-preserved : goal.vertices-preserved
vertices-preserved c =
    elim c.if-eq.branch [ then-eq w ↦ rw (w.out-is, w.count-is) (search (at_vertices, rules)) | else-eq w ↦ rw (w.out-is, w.count-is) (search (at_vertices, rules)) ]

pub returns : goal.returns
returns c = search (at_vertices, rules)
