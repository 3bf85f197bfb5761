-- What a call of `seatlist_text` that wrote has put into its output.
use Rattle.std.proofs.Common.{ℕ, ◌≤◌, ◌≡◌, arith, List, length, take}
use lib.Seq.{take_at}
use Rattle.answers.specs.Replies.{Replied, Answer}
use Rattle.answers.proofs.Replying.{wrote_check, wrote_count, wrote_bytes}
use Rattle.std.specs.Prelude.{Ok}
use Rattle.listing.specs.Listing.{seatlist_text, text_reply}

module _ (input : List ℕ) {out out' : List ℕ} {r : Answer} (replied : Replied (text_reply input) out out' r) {n : ℕ} (wrote : r ≡ Ok n) where
  pub text_inside : n ≤ length out
  text_inside = omega (arith, wrote_count replied wrote, (wrote_check replied wrote).1)

  pub text_written : take n out' ≡ seatlist_text input
  text_written = rw (wrote_bytes replied wrote) (take_at (seatlist_text input) _ n (omega (arith, wrote_count replied wrote)))
