-- What the inner functions of a removal need and promise: parts of the new file put into the output, and bytes that are left out.
use Rattle.std.specs.Prelude.{ℕ, ◌+◌, ◌*◌, ◌≤◌, ◌<◌, ◌≡◌, List, length, get_or}
use Rattle.words.specs.Bytes.{splice}
use Rattle.ship.specs.declared.Blocks.{Blocks}
use Rattle.ship.specs.Layout.{number_size, pair_size, decks_in, blocks_at, block_at, neighbour_extent}
use Rattle.unstitched.specs.declared.Stitches.{Stitches}
use Rattle.unstitched.specs.declared.OldDeck.{OldDeck}
use Rattle.unstitched.specs.NewFile.{kept_from, new_vertex, new_extent, new_v, new_n, new_blocks, block_lengths}

-- ---- the blocks of a deck
-- what a function needs that puts all blocks of deck d
pub record DeckReady (which : Stitches) (s : List ℕ) (d : ℕ) (out : List ℕ) (at : ℕ) : Type 0 where
  pub there : d < decks_in s
  pub room : at + length (new_blocks which s d (blocks_at s d)) ≤ length out

-- ---- a vertex
-- what a function needs that puts vertex i or its list at a position: the list begins at `start`
pub record ListReady (which : Stitches) (s : List ℕ) (d : ℕ) (b : Blocks) (i start : ℕ) (out : List ℕ) (at : ℕ) : Type 0 where
  pub there : i < b.vertices
  pub start_is : start ≡ length (kept_from which s d b 0 (neighbour_extent s b i).start)
  pub room : at + pair_size ≤ length out

-- these bytes are put there, and the next one's list begins at `next`
pub record ListPut (which : Stitches) (s : List ℕ) (d : ℕ) (b : Blocks) (i : ℕ) (bytes out : List ℕ) (at : ℕ) (out' : List ℕ) (next : ℕ) : Type 0 where
  pub out_is : out' ≡ splice out at bytes
  pub next_is : next ≡ length (kept_from which s d b 0 ((neighbour_extent s b i).start + (neighbour_extent s b i).count))

-- ---- bytes left out
-- block j has so many bytes less than it had
pub record LostInBlock (which : Stitches) (s : List ℕ) (j less : ℕ) : Type 0 where
  pub is : (block_at s j).count ≡ get_or (block_lengths which s) j 0 + less

-- and so has N of deck d
pub record LostInDeck (which : Stitches) (s : List ℕ) (d less : ℕ) : Type 0 where
  pub is : number_size * (blocks_at s d).neighbours ≡ number_size * length (kept_from which s d (blocks_at s d) 0 (blocks_at s d).neighbours) + less

-- ---- the same of a deck of the old file and the rule by which it is written anew: V, N, vertex i and its list
abbrev pub v_of : OldDeck → List ℕ
v_of old = new_v old.rule.which old.file.now old.rule.deck old.blocks

abbrev pub n_of : OldDeck → List ℕ
n_of old = new_n old.rule.which old.file.now old.rule.deck old.blocks

abbrev pub vertex_of : OldDeck → ℕ → List ℕ
vertex_of old i = new_vertex old.rule.which old.file.now old.rule.deck old.blocks i

abbrev pub extent_of : OldDeck → ℕ → List ℕ
extent_of old i = new_extent old.rule.which old.file.now old.rule.deck old.blocks i

abbrev pub OldListReady : OldDeck → ℕ → ℕ → List ℕ → ℕ → Type 0
OldListReady old i start out at = ListReady old.rule.which old.file.now old.rule.deck old.blocks i start out at

abbrev pub OldListPut : OldDeck → ℕ → List ℕ → List ℕ → ℕ → List ℕ → ℕ → Type 0
OldListPut old i bytes out at out' next = ListPut old.rule.which old.file.now old.rule.deck old.blocks i bytes out at out' next
