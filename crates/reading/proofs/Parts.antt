-- What a read leaves at the start of a buffer: what stood there before its part, and as much of the part as it says that it read.
use Rattle.std.proofs.Common.{◌≡◌, ℕ, ◌+◌, ◌≤◌, List, ◌++◌, arith, length, take, refl, sym, ap, ◌∙◌, length-take-le}
use Rattle.std.proofs.Math.Seq.{take-append-add}
use Rattle.std.proofs.lemmas.List.{take-take}
use Rattle.std.proofs.lemmas.Slice.{take-put_mid}
use borrow.Rule.Slice.PartMut.{put_mid}

pub front_after : (start room more : ℕ) (buffer part : List ℕ) → start ≤ length buffer → more ≤ length part →
    take (start + more) (put_mid start room buffer part) ≡ take start buffer ++ take more part
front_after start room more buffer part inside fits =
    let front = take start buffer in
    let whole = take-put_mid start room buffer part (start + length part) refl inside in
    let cut : take (start + more) (front ++ part) ≡ front ++ take more part = rw (length-take-le start buffer inside) at (take-append-add front part more) in
    sym (take-take (start + more) (start + length part) (put_mid start room buffer part) (omega arith)) ∙ ap (take (start + more)) whole ∙ cut
