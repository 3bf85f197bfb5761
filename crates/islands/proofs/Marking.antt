-- A polygon that i reaches is marked: what that does to the state of the walk, and what several such steps come to.
use Prim.Native.Nat.{ℕ, ◌+◌, ◌*◌, ◌^◌, ◌<◌, ◌≤◌}
use native.Mathlib.Omega.{arith}
use native.Mathlib.Decide.{ℕ_discrete, dec_lt}
use mathlib.Core.Path.{◌≡◌, refl, sym, subst, ◌∙◌}
use mathlib.Core.Bool.{Bool, true, false, cond}
use mathlib.Core.Logic.{◌⊎◌, inl, inr, ⊎_elim}
use mathlib.Core.List.{List}
use mir.Syntax.{w64}
use mir.Val.{Fits}
use lib.ListN.{length}
use borrow.Author.Tests.{eq-eqb, ne_eqb}
use Rattle.words.specs.Bytes.{put_u32, number_at}
use Rattle.ship.specs.Layout.{number_size}
use Rattle.islands.specs.Reach.{Reaches, IsLabel}
use Rattle.islands.specs.Walk.{no_label, has_label, Labelled, Marked, MarkReady, Walking, Frame, Queued, Later, Spread}
use Rattle.islands.proofs.Reaching.{reach_inside}
use Rattle.islands.proofs.Counts.{one_more, not_all}
use Rattle.words.proofs.Numbers.{put_at}
use Rattle.islands.proofs.Numbers.{number_written, rest_kept}

-- ---- whether a place has a label
module _ (out : List ℕ) (k : ℕ) where
  pub label_none : number_at out k ≡ no_label → has_label out k ≡ false
  unfolding has_label
  label_none e = rw (eq-eqb (number_at out k) no_label e)

  pub label_some : (number_at out k ≡ no_label → ⊥) → Labelled out k
  unfolding has_label
  label_some d = rw (ne_eqb (number_at out k) no_label d)

  pub labelled_not : has_label out k ≡ false → Labelled out k → ⊥
  labelled_not e l = let z : ◌≡◌ {A = ℕ} 0 1 = cc in omega arith

-- ---- `mark`; r is the number that was read in e's place
module _ {e i tail : ℕ} {out work : List ℕ} {r : ℕ} (read : r ≡ number_at out e) where
  pub had_label : (r ≡ no_label → ⊥) → Marked e i tail out out work work tail
  had_label d =
      let h = label_some out e (λ z. d (read ∙ z)) in
      record { out_is = rw h; work_is = rw h; tail_is = rw h }

  module _ (none : r ≡ no_label) where
    pub got_label : {out' work' : List ℕ} → out' ≡ put_u32 out (number_size * e) i → work' ≡ put_u32 work (number_size * tail) e
        → Marked e i tail out out' work work' (tail + 1)
    got_label oe we =
        let h = label_none out e (sym read ∙ none) in
        record { out_is = rw h oe; work_is = rw h we; tail_is = rw h }

    module _ (ready : MarkReady e i tail out work) where
      pub queue_place : number_size * tail + number_size ≤ length work
      queue_place = ready.queue_room (labelled_not out e (label_none out e (sym read ∙ none)))

      pub tail_fits : length work < 2 ^ 64 → Fits w64 (tail + 1)
      tail_fits l = record { fits = omega (arith, queue_place) }

pub ruleset marking = (had_label, got_label, queue_place, tail_fits)

-- ---- steps one after the other
pub frame_none : {n : ℕ} {out work : List ℕ} → Frame n out out work work
frame_none = record { out_long = refl; work_long = refl; rest = refl }

pub frame_then : {n : ℕ} {out out' out'' work work' work'' : List ℕ} → Frame n out out' work work' → Frame n out' out'' work' work'' → Frame n out out'' work work''
frame_then f g = record { out_long = g.out_long ∙ f.out_long; work_long = g.work_long ∙ f.work_long; rest = g.rest ∙ f.rest }

module _ {names : ℕ → ℕ → Bool} {n i : ℕ} where
  later_none : {out work : List ℕ} {tail : ℕ} → Later names n i out out work work tail tail
  later_none =
      record {
        frame = frame_none;
        order = omega arith;
        kept = λ k l. l;
        same = λ q h. refl;
        new = λ k h l. inl l;
        reached = λ q a b. absurd (omega arith);
      }

  later_then : {out out' out'' work work' work'' : List ℕ} {tail tail' tail'' : ℕ} → Later names n i out out' work work' tail tail'
      → Later names n i out' out'' work' work'' tail' tail'' → Later names n i out out'' work work'' tail tail''
  later_then {work' = work'} {work''} {tail} {tail'} {tail''} f g =
      let a = f.order in
      let b = g.order in
      record {
        frame = frame_then f.frame g.frame;
        order = omega arith;
        kept = λ k l. g.kept k (f.kept k l);
        same = λ q h. g.same q (omega arith) ∙ f.same q h;
        new = λ k h l. ⊎_elim (λ x. ⊎_elim (λ y. inl y) (λ y. inr (first k y)) (f.new k h x)) (λ y. inr (second k y)) (g.new k h l);
        reached = λ q lo hi. from q lo hi (dec_lt q tail');
      }
    where
      first : (k : ℕ) → Queued work' tail tail' k → Queued work'' tail tail'' k
      first k y = record { at = y.at; low = y.low; high = omega (arith, y.high, g.order); is = g.same y.at y.high ∙ y.is }

      second : (k : ℕ) → Queued work'' tail' tail'' k → Queued work'' tail tail'' k
      second k y = record { at = y.at; low = omega (arith, y.low, f.order); high = y.high; is = y.is }

      from : (q : ℕ) → tail ≤ q → q < tail'' → Dec (q < tail') → Reaches names i (number_at work'' q)
      from q lo hi (yes h) = subst (Reaches names i) (sym (g.same q h)) (f.reached q lo h)
      from q lo hi (no h) = g.reached q (omega arith) hi

  pub spread_none : {kind : ℕ → Type 0} {out work : List ℕ} {tail : ℕ} → Walking names n i out work tail → ((e : ℕ) → kind e → ⊥)
      → Spread names n i kind out out work work tail tail
  spread_none w none = record { walking = w; later = later_none; all = λ e k. absurd (none e k) }

  module _ {kind : ℕ → Type 0} {out out' work work' : List ℕ} {tail tail' : ℕ} (s : Spread names n i kind out out' work work' tail tail') {wider : ℕ → Type 0} where
    -- nothing more to mark
    pub spread_same : ((e : ℕ) → wider e → kind e) → Spread names n i wider out out' work work' tail tail'
    spread_same of = record { walking = s.walking; later = s.later; all = λ e k. s.all e (of e k) }

    pub spread_then : {more : ℕ → Type 0} {out'' work'' : List ℕ} {tail'' : ℕ} → Spread names n i more out' out'' work' work'' tail' tail''
        → ((e : ℕ) → wider e → kind e ⊎ more e) → Spread names n i wider out out'' work work'' tail tail''
    spread_then t of =
        record {
          walking = t.walking;
          later = later_then s.later t.later;
          all = λ e k. ⊎_elim (λ x. t.later.kept e (s.all e x)) (λ x. t.all e x) (of e k);
        }

-- ---- one polygon
module _ {names : ℕ → ℕ → Bool} {n i : ℕ} {out work : List ℕ} {tail : ℕ} (w : Walking names n i out work tail) where
  queue_fits : {e : ℕ} → e < n → has_label out e ≡ false → tail < n
  queue_fits {e} l was = omega (arith, w.count, not_all (has_label out) n e l was)

  module _ {e : ℕ} (small : i < n) (r : Reaches names i e) where
    below : e < n
    below = reach_inside w.inside r small

    pub mark_ready : MarkReady e i tail out work
    mark_ready =
        let l = below in
        let o = w.room in
        let f = w.few in
        record { label_room = omega arith; queue_room = λ d. queue_at (has_label out e) refl d; number_fits = omega arith; label_fits = omega arith }
      where
        queue_at : (b : Bool) → has_label out e ≡ b → (b ≡ true → ⊥) → number_size * tail + number_size ≤ length work
        queue_at true h d = absurd (d refl)
        queue_at false h d = omega (arith, queue_fits below h, w.wide)

    -- it had none
    module _ (was : has_label out e ≡ false) {out' work' : List ℕ} (oe : out' ≡ put_u32 out (number_size * e) i) (we : work' ≡ put_u32 work (number_size * tail) e) where
      place_room : number_size * e + number_size ≤ length out
      place_room = mark_ready.label_room

      queue_room : number_size * tail + number_size ≤ length work
      queue_room = omega (arith, queue_fits below was, w.wide)

      new_label : number_at out' e ≡ i
      new_label = (put_at place_room oe).there

      old_label : (k : ℕ) → (k ≡ e → ⊥) → number_at out' k ≡ number_at out k
      old_label k d = (put_at place_room oe).others k d

      old_has : (k : ℕ) → (k ≡ e → ⊥) → has_label out' k ≡ has_label out k
      unfolding has_label
      old_has k d = rw (old_label k d)

      new_has : Labelled out' e
      new_has = label_some out' e (λ z. omega (arith, w.few, small, new_label, z))

      new_place : number_at work' tail ≡ e
      new_place = (put_at queue_room we).there

      put_kept : (k : ℕ) → Labelled out k → Labelled out' k
      put_kept k l = old_has k (λ z. labelled_not out e was (rw z at l)) ∙ l

      -- nothing below i reaches e, since it has no label
      label_is : IsLabel names e i
      label_is = record { reached = r; least = λ m x. go m x (dec_lt m i) }
        where
          go : (m : ℕ) → Reaches names m e → Dec (m < i) → i ≤ m
          go m x (yes p) = absurd (labelled_not out e was (w.past m e p below x))
          go m x (no p) = omega arith

      put_right : (k : ℕ) → k < n → Labelled out' k → IsLabel names k (number_at out' k)
      put_right k b x = go (ℕ_discrete k e)
        where
          go : Dec (k ≡ e) → IsLabel names k (number_at out' k)
          go (yes p) = rw (p, new_label) label_is
          go (no d) = rw (old_label k d) (w.right k b (sym (old_has k d) ∙ x))

      put_frame : Frame n out out' work work'
      put_frame =
          record {
            out_long = (put_at place_room oe).long;
            work_long = (put_at queue_room we).long;
            rest = rest_kept w.labels e i below oe;
          }

      put_walking : Walking names n i out' work' (tail + 1)
      put_walking =
          record {
            few = w.few;
            inside = w.inside;
            room = rw put_frame.out_long w.room;
            wide = rw put_frame.work_long w.wide;
            labels = number_written w.labels e i below oe;
            right = put_right;
            past = λ m k a b x. put_kept k (w.past m k a b x);
            count = omega (arith, w.count, one_more (has_label out) (has_label out') e old_has was new_has n below);
          }

      put_later : Later names n i out out' work work' tail (tail + 1)
      put_later =
          record {
            frame = put_frame;
            order = omega arith;
            kept = put_kept;
            same = λ q h. (put_at queue_room we).others q (λ z. omega arith);
            new = λ k h l. at_new k l (ℕ_discrete k e);
            reached = λ q lo hi. let z : q ≡ tail = omega arith in rw (z, new_place) r;
          }
        where
          at_new : (k : ℕ) → Labelled out' k → Dec (k ≡ e) → Labelled out k ⊎ Queued work' tail (tail + 1) k
          at_new k l (yes z) = inr (record { at = tail; low = omega arith; high = omega arith; is = new_place ∙ sym z })
          at_new k l (no d) = inl (sym (old_has k d) ∙ l)

    pub marked : {out' work' : List ℕ} {tail' : ℕ} → Marked e i tail out out' work work' tail' → Spread names n i (λ k. k ≡ e) out out' work work' tail tail'
    marked {out'} {work'} {tail'} m = go (has_label out e) refl m.out_is m.work_is m.tail_is
      where
        go : (b : Bool) → has_label out e ≡ b → out' ≡ cond b out (put_u32 out (number_size * e) i) → work' ≡ cond b work (put_u32 work (number_size * tail) e)
            → tail' ≡ cond b tail (tail + 1) → Spread names n i (λ k. k ≡ e) out out' work work' tail tail'
        go true has oe we te = rw (oe, we, te) (record { walking = w; later = later_none; all = λ k z. rw z has })
        go false was oe we te = rw te (record { walking = put_walking was oe we; later = put_later was oe we; all = λ k z. rw z (new_has was oe we) })
