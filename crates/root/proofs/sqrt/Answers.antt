-- `sqrt` meets its contract: the pattern's root, read as a float.
use mathlib.Core.Path.{sym, subst}
use native.Mathlib.Omega.{arith}
use lib.Dec.{T}
use lib.Ieee.{binary32, fits}
use Rattle.root.proofs.Floats.{pattern_of, pattern_no_nan, positive_no_nan}
use Rattle.root.proofs.Unique.{pattern_root}
use Rattle.root.proofs.sqrt.Goals as goal

-- what owning an `f32` tells: the format holds it
held : (c : goal.Start) → T (fits binary32 c.args.x)
held c = subst T (sym c.well_formed.0.1) tt

pub float_to_bits-x : goal.float_to_bits-x
float_to_bits-x c = positive_no_nan c.args.x c.requires

pub root_pattern-requires : goal.root_pattern-requires
root_pattern-requires c = pattern_of c.args.x (held c) c.requires

pub float_from_bits-result : goal.float_from_bits-result
float_from_bits-result c = pattern_no_nan c.root_pattern.result (omega (arith, c.root_pattern.ensures.most))

pub returns : goal.returns
returns c = pattern_root c.args.x (held c.before) c.requires c.root_pattern.result c.root_pattern.ensures
