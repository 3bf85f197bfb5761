-- Document 01, section 7: what `seatlist` reads, and question 21.
use Rattle.std.specs.Prelude.{ℕ, ◌+◌, Bool, ◌&&◌, List, leb, length}
use Rattle.words.specs.Bytes.{u32_at}

-- 21 At most 65,536 bytes, with a length, that many file bytes and 32 more?
unfoldable pub question21 : List ℕ → Bool
question21 input = leb (length input) 65536 && (leb 4 (length input) && leb (4 + u32_at input 0 + 32) (length input))
