-- A vertex with its list's new start and count, and the loop over the vertices of a deck.
use Prim.Native.Nat.{ℕ, ◌+◌, ◌*◌, ◌≤◌, ◌<◌, ◌^◌}
use native.Mathlib.Omega.{arith}
use mathlib.Core.Path.{◌≡◌, refl, sym, ◌∙◌}
use mathlib.Core.Bool.{true}
use mathlib.Core.List.{List, [], ◌∷◌}
use mir.Syntax.{w32, w64}
use mir.Val.{Fits}
use lib.ListN.{length, length-append}
use Rattle.words.specs.Bytes.{words_of, slice, splice, Put}
use Rattle.words.proofs.Copying.{put_put, put_long}
use Rattle.words.specs.Rows.{collect_all}
use Rattle.words.proofs.Splice.{splice_splice}
use Rattle.ship.specs.declared.Blocks.{Blocks}
use Rattle.ship.specs.declared.Extent.{Extent}
use Rattle.ship.specs.Layout.{number_size, pair_size, deck_offset_size, first_list, vertex_size, list_in_vertex, vertex_position, neighbour_extent}
use Rattle.ship.specs.Questions.{DeckOfPassed}
use Rattle.ship.proofs.Facts.{sound}
use Rattle.unstitched.specs.declared.Stitches.{Stitches}
use Rattle.unstitched.specs.NewFile.{kept_from, new_vertex, new_v, new_extent}
use Rattle.removal.specs.Parts.{ListReady, ListPut}
use Rattle.unstitched.proofs.Entries.{kept_join, kept_few}
use Rattle.removal.proofs.PutLoop.{PiecesPut, pieces_all, pieces_none, pieces_room, pieces_yes}
use Rattle.unstitched.proofs.Pieces.{slice_length}
use Rattle.unstitched.proofs.Chains.{start_of, start_here, start_first, start_next}
use Rattle.unstitched.proofs.OldPlaces.{lists_chain, deck_laid}
use Rattle.unstitched.proofs.NewDeck.{vertex_length}

-- ---- a vertex of a deck that passed: it and its list lie in the file
module _ {s : List ℕ} {b : Blocks} {i : ℕ} (deck : DeckOfPassed s b) (there : i < b.vertices) where
  pub row_inside : b.v + first_list + vertex_size * i + pair_size ≤ length s
  row_inside = omega (arith, (sound deck).inside.v_inside)

  pub list_there : {list : Extent} → list ≡ neighbour_extent s b i → b.n + number_size * (list.start + list.count) ≤ length s
  list_there read = rw read (omega (arith, (sound deck).neighbour_list i there, (sound deck).inside.n_inside))

-- ---- `put_list`
module _ {which : Stitches} {s : List ℕ} {d : ℕ} {b : Blocks} {i start : ℕ} {out : List ℕ} {at : ℕ} (h : ListReady which s d b i start out at)
    {list : Extent} (read : list ≡ neighbour_extent s b i) where
  start_low : start ≤ list.start
  start_low = rw read (omega (arith, h.start_is, kept_few which s d b (neighbour_extent s b i).start 0))

  module _ (small : list.start < 4294967296) where
    pub start_fits : Fits w32 start
    start_fits = record { fits = omega (arith, start_low) }

    pub list_end_fits : {count : ℕ} → count ≤ list.count → list.count < 4294967296 → Fits w64 (start + count)
    list_end_fits few short = record { fits = omega (arith, start_low) }

  pub list_put : {count : ℕ} {out' : List ℕ} → count ≡ length (kept_from which s d b list.start list.count) → out' ≡ splice out at (words_of (start ∷ count ∷ []))
      → ListPut which s d b i (words_of (new_extent which s d b i)) out at out' (start + count)
  list_put is put =
      let old = neighbour_extent s b i in
      let z : 0 + old.start ≡ old.start = omega arith in
      record {
        out_is = put ∙ rw (is, read, h.start_is);
        next_is = sym (kept_join which s d b old.start 0 old.count ∙ rw (z, is, read, h.start_is));
      }

pub ruleset list = (start_fits, list_end_fits, list_put)

-- ---- `put_vertex`
module _ {which : Stitches} {s : List ℕ} {d : ℕ} {b : Blocks} {i start : ℕ} {out : List ℕ} {at : ℕ} (h : ListReady which s d b i start out (at + list_in_vertex)) (deck : DeckOfPassed s b)
    {mid : List ℕ} {next : ℕ} (p : Put out at (slice s (vertex_position b i) list_in_vertex) mid next) where
  point : List ℕ
  point = slice s (vertex_position b i) list_in_vertex

  point_long : length point ≡ list_in_vertex
  unfolding point
  point_long = slice_length s (vertex_position b i) list_in_vertex (omega (arith, row_inside deck h.there))

  point_room : at + length point ≤ length out
  point_room = omega (arith, h.room, point_long)

  pub vertex_long : length mid ≡ length out
  unfolding point
  vertex_long = put_long p point_room

  pub vertex_ready : ListReady which s d b i start mid next
  unfolding point
  vertex_ready =
      record {
        there = h.there;
        start_is = h.start_is;
        room = omega (arith, h.room, p.next_is, point_long, vertex_long);
      }

  pub vertex_put : {out' : List ℕ} {n : ℕ} → ListPut which s d b i (words_of (new_extent which s d b i)) mid next out' n → ListPut which s d b i (new_vertex which s d b i) out at out' n
  unfolding point new_vertex
  vertex_put q = record { out_is = q.out_is ∙ rw (p.out_is, p.next_is) (splice_splice out at point point_room _); next_is = q.next_is }

pub ruleset vertex = (vertex_long, vertex_ready, vertex_put)

-- ---- `put_vertices`: the vertices before i are put, and list i begins at `start`
pub record VerticesPut (which : Stitches) (s : List ℕ) (d : ℕ) (b : Blocks) (out₀ : List ℕ) (at : ℕ) (out : List ℕ) (next start i : ℕ) : Type 0 where
  pub put : PiecesPut (λ k. true) (new_vertex which s d b) b.vertices out₀ at out next i
  pub start_is : start ≡ length (kept_from which s d b 0 (start_of (neighbour_extent s b) b.neighbours b.vertices i))

-- the offset is copied first
pub offset_inside : {s : List ℕ} {b : Blocks} → DeckOfPassed s b → b.v + deck_offset_size ≤ length s
offset_inside deck = omega (arith, (sound deck).inside.v_inside)

module _ (which : Stitches) {s : List ℕ} (d : ℕ) {b : Blocks} (out : List ℕ) (at : ℕ) (deck : DeckOfPassed s b)
    (room : at + length (new_v which s d b) ≤ length out) where
  V-long : length (new_v which s d b) ≡ length (slice s b.v deck_offset_size) + length (collect_all (new_vertex which s d b) 0 b.vertices)
  V-long = length-append (slice s b.v deck_offset_size) _

  offset_long : length (slice s b.v deck_offset_size) ≡ deck_offset_size
  offset_long = slice_length s b.v deck_offset_size (offset_inside deck)

  pub offset_room : at + deck_offset_size ≤ length out
  offset_room = omega (arith, room, V-long, offset_long)

  module _ {mid : List ℕ} {first : ℕ} (p : Put out at (slice s b.v deck_offset_size) mid first) where
    offset_put : length mid ≡ length out
    offset_put = put_long p (omega (arith, offset_room, offset_long))

    pub vertices_all : VerticesPut which s d b mid first mid first 0 0
    vertices_all =
        record {
          put = pieces_all (omega (arith, room, V-long, p.next_is, offset_put));
          start_is = rw (start_first (neighbour_extent s b) b.neighbours 0 b.vertices (lists_chain deck)) (omega (arith, kept_few which s d b 0 0));
        }

    module _ {out' : List ℕ} {next start i : ℕ} (c : VerticesPut which s d b mid first out' next start i) where
      pub vertices_long : length out' ≡ length out
      vertices_long = c.put.long ∙ offset_put

      pub vertices_none : b.vertices ≤ i → Put out at (new_v which s d b) out' next
      vertices_none l = put_put p (omega (arith, offset_room, offset_long, p.next_is)) (pieces_none c.put l)

module _ {which : Stitches} {s : List ℕ} {d : ℕ} {b : Blocks} {out₀ : List ℕ} {at : ℕ} {out : List ℕ} {next start i : ℕ}
    (c : VerticesPut which s d b out₀ at out next start i) (deck : DeckOfPassed s b) (h : i < b.vertices) where
  extent_is : start_of (neighbour_extent s b) b.neighbours b.vertices i ≡ (neighbour_extent s b i).start
  extent_is = start_here (neighbour_extent s b) b.neighbours b.vertices i h

  piece_long : length (new_vertex which s d b i) ≡ vertex_size
  piece_long = vertex_length which s d b (deck_laid deck) i h

  piece_room : next + vertex_size ≤ length out
  piece_room = omega (arith, pieces_room c.put h refl, piece_long)

  pub list_ready : ListReady which s d b i start out (next + list_in_vertex)
  list_ready =
      record {
        there = h;
        start_is = c.start_is ∙ rw extent_is;
        room = omega (arith, piece_room);
      }

  pub vertex_fits : length out < 2 ^ 64 → Fits w64 (next + vertex_size)
  vertex_fits l = record { fits = omega (arith, piece_room) }

  pub vertices_more : {out' : List ℕ} {start' : ℕ} → ListPut which s d b i (new_vertex which s d b i) out next out' start'
      → VerticesPut which s d b out₀ at out' (next + vertex_size) start' (i + 1)
  vertices_more q =
      record {
        put = pieces_yes c.put h refl q.out_is (rw piece_long);
        start_is = q.next_is ∙ rw (start_next (neighbour_extent s b) b.neighbours 0 b.vertices (lists_chain deck) i h, extent_is);
      }

pub ruleset vertices = (offset_inside, offset_room, vertices_all, vertices_long, vertices_none, list_ready, vertex_fits, vertices_more)
