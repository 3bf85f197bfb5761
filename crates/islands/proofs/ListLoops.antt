-- The lists of a polygon's vertices, entry by entry: what the loops that mark them say at their start, in a turn and at their end.
use Prim.Native.Nat.{ℕ, ◌+◌, ◌<◌, ◌≤◌}
use native.Mathlib.Omega.{arith}
use native.Mathlib.Decide.{ℕ_discrete}
use mathlib.Core.Path.{◌≡◌, sym, ap, subst, ◌∙◌}
use mathlib.Core.Bool.{not}
use mathlib.Core.Logic.{◌⊎◌, inl, inr}
use mathlib.Core.List.{List}
use lib.Dec.{T, eqb}
use lib.Ieee.Bits.{is_true}
use lib.ListN.{length, get_or}
use borrow.Author.Tests.{eqb-true, eqb-false, eq-eqb, ne_eqb, not-true}
use Rattle.words.specs.Bytes.{all_ones}
use Rattle.words.specs.Rows.{has}
use Rattle.words.proofs.TableRows.{both, some_at, some_which}
use Rattle.words.proofs.Collecting.{holds}
use Rattle.ship.specs.Model.{Deck, neighbours_of, corners_of}
use Rattle.islands.specs.Reach.{Reaches}
use Rattle.islands.specs.Islands.{list_of, names}
use Rattle.islands.specs.Walk.{Marked, MarkReady, Spread, Entry, Named, ListReady, ListRead, PolygonReady, PolygonRead}
use Rattle.islands.proofs.Reaching.{reach_more}
use Rattle.islands.proofs.Marking.{spread_none, spread_same, spread_then, mark_ready, marked}

-- ---- `names` is to be an entry of a list
module _ (deck : Deck) (k e : ℕ) where
  pub names_entry : T (names deck k e) → Named deck k (length (corners_of deck k)) e
  unfolding names has
  names_entry t =
      let x = both (not (eqb e all_ones)) _ (is_true (names deck k e) t) in
      let c = some_which (λ c. has (list_of deck k c) e) (length (corners_of deck k)) x.1 in
      let j = some_which (λ j. eqb (get_or (list_of deck k c.0) j 0) e) (length (list_of deck k c.0)) c.2 in
      record {
        corner = c.0;
        there = c.1;
        entry =
            record {
              at = j.0;
              there = j.1;
              is = eqb-true (get_or (list_of deck k c.0) j.0 0) e j.2;
              polygon = eqb-false e all_ones (not-true (eqb e all_ones) x.0);
            };
      }

  pub entry_names : Named deck k (length (corners_of deck k)) e → T (names deck k e)
  unfolding names has
  entry_names h =
      let l = list_of deck k h.corner in
      let there = some_at (λ j. eqb (get_or l j 0) e) (length l) h.entry.at h.entry.there (eq-eqb (get_or l h.entry.at 0) e h.entry.is) in
      let at = some_at (λ c. has (list_of deck k c) e) (length (corners_of deck k)) h.corner h.there there in
      holds (names deck k e) (rw (ne_eqb e all_ones h.entry.polygon) at)

-- ---- `read_list`: the entries before j are marked
pub record Entries (deck : Deck) (v i : ℕ) (out₀ out work₀ work : List ℕ) (tail₀ tail j end : ℕ) : Type 0 where
  pub vertex_there : v < length deck.vertices
  pub start_there : i < length deck.polygons
  pub reached : (e : ℕ) → Entry deck v (length (neighbours_of deck v)) e → Reaches (names deck) i e
  pub end_is : end ≡ length (neighbours_of deck v)
  pub spread : Spread (names deck) (length deck.polygons) i (Entry deck v j) out₀ out work₀ work tail₀ tail

module _ {deck : Deck} {v i : ℕ} where
  pub entries_first : {out work : List ℕ} {tail end : ℕ} → ListReady deck v i out work tail → end ≡ length (neighbours_of deck v)
      → Entries deck v i out out work work tail tail 0 end
  entries_first r e =
      record {
        vertex_there = r.vertex_there;
        start_there = r.start_there;
        reached = r.reached;
        end_is = e;
        spread = spread_none r.walking (λ x y. omega (arith, y.there));
      }

  module _ {out₀ out work₀ work : List ℕ} {tail₀ tail j end : ℕ} (x : Entries deck v i out₀ out work₀ work tail₀ tail j end) where
    pub entries_done : end ≤ j → ListRead deck v i out₀ out work₀ work tail₀ tail
    entries_done h = spread_same x.spread (λ e y. record { at = y.at; there = omega (arith, y.there, x.end_is); is = y.is; polygon = y.polygon })

    module _ (h : j < end) where
      pub entry_there : j < length (neighbours_of deck v)
      entry_there = omega (arith, x.end_is)

      module _ {e : ℕ} (is : e ≡ get_or (neighbours_of deck v) j 0) where
        with_spread : {out' work' : List ℕ} {tail' : ℕ}
            → Spread (names deck) (length deck.polygons) i (Entry deck v (j + 1)) out₀ out' work₀ work' tail₀ tail'
            → Entries deck v i out₀ out' work₀ work' tail₀ tail' (j + 1) end
        with_spread s =
            record { vertex_there = x.vertex_there; start_there = x.start_there; reached = x.reached; end_is = x.end_is; spread = s }

        -- before j, or e itself
        entry_cases : (m : ℕ) → Entry deck v (j + 1) m → Entry deck v j m ⊎ (m ≡ e)
        entry_cases m y = go (ℕ_discrete y.at j)
          where
            go : Dec (y.at ≡ j) → Entry deck v j m ⊎ (m ≡ e)
            go (yes p) = inr (sym y.is ∙ ap (λ (q : ℕ). get_or (neighbours_of deck v) q 0) p ∙ sym is)
            go (no d) = inl (record { at = y.at; there = omega (arith, y.there, d); is = y.is; polygon = y.polygon })

        pub entry_outside : e ≡ all_ones → Entries deck v i out₀ out work₀ work tail₀ tail (j + 1) end
        entry_outside o = with_spread (spread_same x.spread (λ m y. go m y (entry_cases m y)))
          where
            go : (m : ℕ) → Entry deck v (j + 1) m → Entry deck v j m ⊎ (m ≡ e) → Entry deck v j m
            go m y (inl z) = z
            go m y (inr z) = absurd (y.polygon (z ∙ o))

        module _ (d : e ≡ all_ones → ⊥) where
          entry_reached : Reaches (names deck) i e
          entry_reached = x.reached e (record { at = j; there = entry_there; is = sym is; polygon = d })

          pub entry_ready : MarkReady e i tail out work
          entry_ready = mark_ready x.spread.walking x.start_there entry_reached

          pub entry_marked : {out' work' : List ℕ} {tail' : ℕ} → Marked e i tail out out' work work' tail'
              → Entries deck v i out₀ out' work₀ work' tail₀ tail' (j + 1) end
          entry_marked m = with_spread (spread_then x.spread (marked x.spread.walking x.start_there entry_reached m) entry_cases)

pub ruleset entries = (entries_first, entries_done, entry_there, entry_outside, entry_ready, entry_marked)

-- ---- `read_lists`: the lists of the vertices before c are read
pub record Corners (deck : Deck) (k i : ℕ) (out₀ out work₀ work : List ℕ) (tail₀ tail c end : ℕ) : Type 0 where
  pub polygon_there : k < length deck.polygons
  pub start_there : i < length deck.polygons
  pub reached : Reaches (names deck) i k
  pub end_is : end ≡ length (corners_of deck k)
  pub spread : Spread (names deck) (length deck.polygons) i (Named deck k c) out₀ out work₀ work tail₀ tail

module _ {deck : Deck} {k i : ℕ} where
  pub corners_first : {out work : List ℕ} {tail end : ℕ} → PolygonReady deck k i out work tail → end ≡ length (corners_of deck k)
      → Corners deck k i out out work work tail tail 0 end
  corners_first r e =
      record {
        polygon_there = r.polygon_there;
        start_there = r.start_there;
        reached = r.reached;
        end_is = e;
        spread = spread_none r.walking (λ x y. omega (arith, y.there));
      }

  module _ {out₀ out work₀ work : List ℕ} {tail₀ tail c end : ℕ} (x : Corners deck k i out₀ out work₀ work tail₀ tail c end) where
    pub corners_done : end ≤ c → PolygonRead deck k i out₀ out work₀ work tail₀ tail
    corners_done h = spread_same x.spread (λ e y. record { corner = y.corner; there = omega (arith, y.there, x.end_is); entry = y.entry })

    module _ (h : c < end) where
      pub corner_there : c < length (corners_of deck k)
      corner_there = omega (arith, x.end_is)

      module _ {v : ℕ} (is : v ≡ get_or (corners_of deck k) c 0) where
        here_entry : {e : ℕ} → Entry deck v (length (neighbours_of deck v)) e
            → Entry deck (get_or (corners_of deck k) c 0) (length (list_of deck k c)) e
        here_entry {e} y = subst (λ (m : ℕ). Entry deck m (length (neighbours_of deck m)) e) is y

        pub corner_ready : v < length deck.vertices → ListReady deck v i out work tail
        corner_ready l =
            record {
              vertex_there = l;
              start_there = x.start_there;
              walking = x.spread.walking;
              reached = λ e y. reach_more x.reached (entry_names deck k e (record { corner = c; there = corner_there; entry = here_entry y }));
            }

        pub corner_read : {out' work' : List ℕ} {tail' : ℕ} → ListRead deck v i out out' work work' tail tail'
            → Corners deck k i out₀ out' work₀ work' tail₀ tail' (c + 1) end
        corner_read s =
            record {
              polygon_there = x.polygon_there;
              start_there = x.start_there;
              reached = x.reached;
              end_is = x.end_is;
              spread = spread_then x.spread s (λ e y. go e y (ℕ_discrete y.corner c));
            }
          where
            go : (e : ℕ) (y : Named deck k (c + 1) e) → Dec (y.corner ≡ c)
                → Named deck k c e ⊎ Entry deck v (length (neighbours_of deck v)) e
            go e y (yes p) =
                inr (subst (λ (m : ℕ). Entry deck m (length (neighbours_of deck m)) e)
                (ap (λ (q : ℕ). get_or (corners_of deck k) q 0) p ∙ sym is) y.entry)
            go e y (no d) = inl (record { corner = y.corner; there = omega (arith, y.there, d); entry = y.entry })

pub ruleset corners = (corners_first, corners_done, corner_there, corner_ready, corner_read)
