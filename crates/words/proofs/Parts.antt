-- What is written to a part of a slice is a `splice`, and what the library writes for a number is `bytes4` or `bytes8` of it.
use Prim.Native.Nat.{ℕ, ◌^◌, ◌<◌}
use native.Mathlib.Omega.{arith}
use mathlib.Core.Path.{◌≡◌}
use mathlib.Core.List.{List, append_assoc}
use borrow.Rule.Slice.PartMut.{put_mid}
use lib.ListN.{length}
use lib.Seq.{drop-drop}
use Rattle.std.specs.Int.{w32, w64, to_le_bytes}
use Rattle.words.specs.Bytes.{bytes4, bytes8, splice}

pub part_splice : (s : List ℕ) (at k : ℕ) (xs : List ℕ) → k ≡ length xs → put_mid at k s xs ≡ splice s at xs
unfolding splice
part_splice s at k xs e = rw (e, append_assoc, drop-drop)

pub le_bytes4 : (x : ℕ) → x < 2 ^ 32 → to_le_bytes w32 x ≡ bytes4 x
unfolding bytes4
le_bytes4 x h = search arith

pub le_bytes8 : (x : ℕ) → x < 2 ^ 64 → to_le_bytes w64 x ≡ bytes8 x
unfolding bytes8 bytes4
le_bytes8 x h = search arith
