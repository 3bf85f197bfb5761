-- The answer of a removal over C: it wrote no more bytes than the output has, and that many fit an i64.
use Prim.Native.Nat.{ℕ, ◌*◌, ◌^◌, ◌<◌}
use native.Mathlib.Omega.{arith}
use mathlib.Core.Path.{◌≡◌, refl}
use mathlib.Core.List.{List}
use lib.ListN.{length}
use Rattle.answers.specs.Replies.{AnswerFits, Answer}
use Rattle.answers.proofs.Replying.{wrote_check, wrote_count}
use Rattle.std.specs.Prelude.{Ok, Err}
use Rattle.unstitched.specs.declared.Stitches.{Stitches}
use Rattle.unstitched.specs.NewFile.{RemovalReplied}

-- `length out * 1` is what a slice of bytes is known by
pub removal_fits : (which : Stitches) (file : List ℕ) {out out' : List ℕ} {r : Answer} → RemovalReplied which file out out' r → length out * 1 < 2 ^ 63 → AnswerFits r
removal_fits which file {out} {out'} {r} h l = go r refl
  where
    go : (a : Answer) → r ≡ a → AnswerFits a
    go (Ok n) e = omega (arith, wrote_count h e, (wrote_check h e).1)
    go (Err number) e = tt
