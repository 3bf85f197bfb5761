-- The walks over a deck's polygons: what `walk` and `label_all` say at their start, in a turn and at their end.
use Prim.Native.Nat.{ℕ, ◌+◌, ◌*◌, ◌<◌, ◌≤◌}
use native.Mathlib.Omega.{arith}
use mathlib.Core.Path.{◌≡◌, ap, subst, ◌∙◌}
use mathlib.Core.List.{List, ◌++◌}
use lib.ListN.{length, drop, replicate}
use Rattle.words.specs.Bytes.{words_of, number_at}
use Rattle.ship.specs.Layout.{number_size}
use Rattle.ship.specs.Model.{Deck}
use Rattle.ship.specs.Within.{DeckWithin}
use Rattle.islands.specs.Reach.{here}
use Rattle.islands.specs.Labels.{labels_by}
use Rattle.islands.specs.Islands.{names, deck_labels}
use Rattle.islands.specs.Walk.{no_label, Marked, MarkReady, Swept, Frame, PolygonReady, PolygonRead, WalkReady, Walked, LabelReady, LabelsPut}
use Rattle.islands.proofs.Numbers.{filled_long, filled_rest}
use Rattle.islands.proofs.Marking.{frame_none, frame_then, mark_ready}
use Rattle.islands.proofs.Sweeping.{Queueing, queue_first, first_frame, queue_reached, queue_inside, queue_more, queue_done, swept_first, swept_last}
use Rattle.islands.proofs.ListLoops.{names_entry}
use Rattle.islands.proofs.EntriesInside.{names_inside}

-- ---- `walk`: the queue is read up to head
pub record Waiting (deck : Deck) (i : ℕ) (out₀ out work₀ work : List ℕ) (tail head : ℕ) : Type 0 where
  pub queue : Queueing (names deck) (length deck.polygons) i out₀ out work₀ work tail head

module _ {deck : Deck} {i : ℕ} where
  module _ {out work : List ℕ} {tail : ℕ} (r : WalkReady deck i out work tail) where
    pub walk_mark : MarkReady i i tail out work
    walk_mark = mark_ready r.swept.walking r.start_there here

    module _ {out' work' : List ℕ} {tail' : ℕ} (m : Marked i i tail out out' work work' tail') where
      pub walk_first : Waiting deck i out' out' work' work' tail' tail
      walk_first = record { queue = queue_first r.swept r.start_there m }

      module _ {out'' work'' : List ℕ} {last head : ℕ} (x : Waiting deck i out' out'' work' work'' last head) where
        walk_frame : Frame (length deck.polygons) out out'' work work''
        walk_frame = first_frame r.swept r.start_there m x.queue.frame

        pub walk_out_long : length out'' ≡ length out
        walk_out_long = walk_frame.out_long

        pub walk_work_long : length work'' ≡ length work
        walk_work_long = walk_frame.work_long

        pub walk_done : last ≤ head → Walked deck i out out'' work work'' last
        walk_done h = record { swept = queue_done x.queue h; frame = walk_frame }

  module _ {out₀ out work₀ work : List ℕ} {tail head : ℕ} (x : Waiting deck i out₀ out work₀ work tail head) (h : head < tail) where
    pub walk_place : number_size * head + number_size ≤ length work
    walk_place = omega (arith, x.queue.long, x.queue.walking.wide)

    module _ {k : ℕ} (is : k ≡ number_at work head) where
      pub walk_polygon : PolygonReady deck k i out work tail
      walk_polygon =
          let q = x.queue in
          record { polygon_there = queue_inside q h is; start_there = q.small; walking = q.walking; reached = queue_reached q h is }

      pub walk_more : {out' work' : List ℕ} {tail' : ℕ} → PolygonRead deck k i out out' work work' tail tail' → Waiting deck i out₀ out' work₀ work' tail' (head + 1)
      walk_more s = record { queue = queue_more x.queue h is s (names_entry deck k) }

pub ruleset walks = (walk_mark, walk_first, walk_out_long, walk_work_long, walk_done, walk_place, walk_more)

-- ---- `label_all`: the walks from the polygons before i are done
pub record Starting (deck : Deck) (out₀ out work₀ work : List ℕ) (tail i : ℕ) : Type 0 where
  pub most : i ≤ length deck.polygons
  pub swept : Swept (names deck) (length deck.polygons) i out work tail
  pub frame : Frame (length deck.polygons) out₀ out work₀ work

module _ {deck : Deck} where
  module _ {out work : List ℕ} (r : LabelReady deck out work) {out' : List ℕ} {n : ℕ} (counted : n ≡ length deck.polygons)
      (put : out' ≡ words_of (replicate n no_label) ++ drop (number_size * n) out) where
    filled : out' ≡ words_of (replicate (length deck.polygons) no_label) ++ drop (number_size * length deck.polygons) out
    filled = rw counted at put

    pub start_first : DeckWithin deck → Starting deck out' out' work work 0 0
    start_first within =
        record {
          most = omega arith;
          swept = swept_first out (omega (arith, within.few_polygons)) (names_inside deck r.entries_inside) r.room r.wide filled;
          frame = frame_none;
        }

    module _ {out'' work'' : List ℕ} {tail i : ℕ} (x : Starting deck out' out'' work work'' tail i) where
      pub start_out_long : length out'' ≡ length out
      start_out_long = x.frame.out_long ∙ filled_long (length deck.polygons) out r.room filled

      pub start_done : n ≤ i → {work''' : List ℕ} → work''' ≡ replicate (length work'') 0 → LabelsPut deck out out'' work work'''
      unfolding deck_labels
      start_done h e =
          let count = length deck.polygons in
          let all : i ≡ count = omega (arith, x.most, counted) in
          let done : Swept (names deck) count count out'' work'' tail = subst (λ (m : ℕ). Swept (names deck) count m out'' work'' tail) all x.swept in
          record {
            out_is =
                swept_last done
                ∙ ap (λ (l : List ℕ). words_of (labels_by (names deck) count) ++ l) (x.frame.rest ∙ filled_rest count out r.room filled);
            work_is = e ∙ rw x.frame.work_long;
          }

  module _ {out₀ out work₀ work : List ℕ} {tail i : ℕ} (x : Starting deck out₀ out work₀ work tail i) (h : i < length deck.polygons) where
    pub start_walk : WalkReady deck i out work tail
    start_walk = record { start_there = h; swept = x.swept }

    pub start_more : {out' work' : List ℕ} {tail' : ℕ} → Walked deck i out out' work work' tail' → Starting deck out₀ out' work₀ work' tail' (i + 1)
    start_more w = record { most = omega arith; swept = w.swept; frame = frame_then x.frame w.frame }

pub ruleset starts = (start_first, start_out_long, start_done, start_walk, start_more)
