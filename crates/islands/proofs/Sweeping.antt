-- The walk from i: the queue is read until nothing waits, and then all that i reaches has a label. And what all walks come to.
use Prim.Native.Nat.{ℕ, ◌+◌, ◌*◌, ◌<◌, ◌≤◌}
use native.Mathlib.Omega.{arith}
use native.Mathlib.Decide.{ℕ_discrete, dec_lt}
use mathlib.Core.Path.{◌≡◌, refl, sym, ap, subst, ◌∙◌}
use mathlib.Core.Bool.{Bool}
use mathlib.Core.Logic.{◌⊎◌, inl, inr, ⊎_elim}
use mathlib.Core.List.{List, ◌++◌}
use lib.Dec.{T}
use lib.ListN.{length, drop, replicate}
use Rattle.words.specs.Bytes.{words_of, number_at}
use Rattle.ship.specs.Layout.{number_size}
use Rattle.islands.specs.Reach.{Reaches, here, IsLabel}
use Rattle.islands.specs.Labels.{labels_by}
use Rattle.islands.specs.Walk.{no_label, has_label, Labelled, Marked, Walking, Closed, Swept, Frame, Queued, Spread}
use Rattle.islands.proofs.Reaching.{along, reach_inside, labels_unique}
use Rattle.islands.proofs.Through.{labels_by_lem}
use Rattle.islands.proofs.Counts.{none_pass, at_most}
use Rattle.islands.proofs.Numbers.{number_read, filled_numbers, filled_long, filled_none}
use Rattle.islands.proofs.Marking.{label_none, labelled_not, frame_none, frame_then, marked}

-- ---- the queue of the walk from i, read up to head
pub record Queueing (names : ℕ → ℕ → Bool) (n i : ℕ) (out₀ out work₀ work : List ℕ) (tail head : ℕ) : Type 0 where
  pub walking : Walking names n i out work tail
  pub small : i < n
  pub order : head ≤ tail
  pub long : tail ≤ n
  pub mine : Labelled out i
  pub waits : (q : ℕ) → head ≤ q → q < tail → Reaches names i (number_at work q)
  -- what has a label has named none but labelled polygons, or waits
  pub closed : (k : ℕ) → k < n → Labelled out k → Closed names out k ⊎ Queued work head tail k
  pub frame : Frame n out₀ out work₀ work

module _ {names : ℕ → ℕ → Bool} {n i : ℕ} where
  queue_long : {out work : List ℕ} {tail : ℕ} → Walking names n i out work tail → tail ≤ n
  queue_long {out} w = omega (arith, w.count, at_most (has_label out) n)

  module _ {out out' work work' : List ℕ} {tail tail' : ℕ} (s : Swept names n i out work tail) (small : i < n) (m : Marked i i tail out out' work work' tail') where
    first_spread : Spread names n i (λ k. k ≡ i) out out' work work' tail tail'
    first_spread = marked s.walking small here m

    pub queue_first : Queueing names n i out' out' work' work' tail' tail
    queue_first =
        let f = first_spread in
        record {
          walking = f.walking;
          small = small;
          order = f.later.order;
          long = queue_long f.walking;
          mine = f.all i refl;
          waits = f.later.reached;
          closed = λ k h l. ⊎_elim (λ x. inl (record { all = λ b t. f.later.kept b ((s.closed k h x).all b t) })) (λ q. inr q) (f.later.new k h l);
          frame = frame_none;
        }

    pub first_frame : {out'' work'' : List ℕ} → Frame n out' out'' work' work'' → Frame n out out'' work work''
    first_frame f = frame_then first_spread.later.frame f

  module _ {out₀ out work₀ work : List ℕ} {tail head : ℕ} (x : Queueing names n i out₀ out work₀ work tail head) where
    module _ (h : head < tail) {k : ℕ} (is : k ≡ number_at work head) where
      pub queue_reached : Reaches names i k
      queue_reached = rw is (x.waits head (omega arith) h)

      pub queue_inside : k < n
      queue_inside = reach_inside x.walking.inside queue_reached x.small

      -- the lists of k are read
      pub queue_more : {kind : ℕ → Type 0} {out' work' : List ℕ} {tail' : ℕ} → Spread names n i kind out out' work work' tail tail'
          → ((b : ℕ) → T (names k b) → kind b) → Queueing names n i out₀ out' work₀ work' tail' (head + 1)
      queue_more {kind} {out'} {work'} {tail'} s named =
          let o = s.later.order in
          record {
            walking = s.walking;
            small = x.small;
            order = omega arith;
            long = queue_long s.walking;
            mine = s.later.kept i x.mine;
            waits = λ q a b. wait q a b (dec_lt q tail);
            closed = λ m b l.
                ⊎_elim (λ y. ⊎_elim (λ z. inl (still m z)) (λ z. old m z (ℕ_discrete z.at head)) (x.closed m b y)) (λ y. inr (new m y)) (s.later.new m b l);
            frame = frame_then x.frame s.later.frame;
          }
        where
          wait : (q : ℕ) → head + 1 ≤ q → q < tail' → Dec (q < tail) → Reaches names i (number_at work' q)
          wait q a b (yes l) = subst (Reaches names i) (sym (s.later.same q l)) (x.waits q (omega arith) l)
          wait q a b (no l) = s.later.reached q (omega arith) b

          still : (m : ℕ) → Closed names out m → Closed names out' m
          still m c = record { all = λ b t. s.later.kept b (c.all b t) }

          old : (m : ℕ) (z : Queued work head tail m) → Dec (z.at ≡ head) → Closed names out' m ⊎ Queued work' (head + 1) tail' m
          old m z (yes p) =
              let e : k ≡ m = is ∙ ap (number_at work) (sym p) ∙ z.is in
              inl (subst (Closed names out') e (record { all = λ b t. s.all b (named b t) }))
          old m z (no d) =
              inr (record { at = z.at; low = omega (arith, z.low, d); high = omega (arith, z.high, s.later.order); is = s.later.same z.at z.high ∙ z.is })

          new : (m : ℕ) → Queued work' tail tail' m → Queued work' (head + 1) tail' m
          new m y = record { at = y.at; low = omega (arith, y.low); high = y.high; is = y.is }

    -- nothing waits any more
    pub queue_done : tail ≤ head → Swept names n (i + 1) out work tail
    queue_done d =
        let w = x.walking in
        record {
          walking =
              record {
                few = w.few;
                inside = w.inside;
                room = w.room;
                wide = w.wide;
                labels = w.labels;
                right = w.right;
                past = λ m k a b r. past m k a b r (ℕ_discrete m i);
                count = w.count;
              };
          closed = closed;
        }
      where
        closed : (k : ℕ) → k < n → Labelled out k → Closed names out k
        closed k h l = ⊎_elim (λ c. c) (λ q. absurd (omega (arith, q.low, q.high))) (x.closed k h l)

        past : (m k : ℕ) → m < i + 1 → k < n → Reaches names m k → Dec (m ≡ i) → Labelled out k
        past m k a b r (yes e) =
            (along (λ z. (z < n) × Labelled out z) (λ u v p t. (x.walking.inside u v p.0 t, (closed u p.0 p.1).all v t)) m k r (rw e (x.small, x.mine))).1
        past m k a b r (no e) = x.walking.past m k (omega arith) b r

-- ---- all walks
module _ {names : ℕ → ℕ → Bool} {n : ℕ} where
  pub swept_first : (out : List ℕ) {out' work : List ℕ} → n < no_label → ((a b : ℕ) → a < n → T (names a b) → b < n) → number_size * n ≤ length out
      → number_size * n ≤ length work → out' ≡ words_of (replicate n no_label) ++ drop (number_size * n) out → Swept names n 0 out' work 0
  swept_first out {out'} few inside room wide filled =
      record {
        walking =
            record {
              few = few;
              inside = inside;
              room = rw (filled_long n out room filled) room;
              wide = wide;
              labels = filled_numbers n out room filled;
              right = λ k h l. absurd (none k h l);
              past = λ m k a b r. absurd (omega arith);
              count = sym (none_pass (has_label out') n 0 (λ k a b. label_none out' k (filled_none n out room filled k (omega arith))));
            };
        closed = λ k h l. absurd (none k h l);
      }
    where
      none : (k : ℕ) → k < n → Labelled out' k → ⊥
      none k h = labelled_not out' k (label_none out' k (filled_none n out room filled k h))

  pub swept_last : {out work : List ℕ} {tail : ℕ} → Swept names n n out work tail → out ≡ words_of (labels_by names n) ++ drop (number_size * n) out
  swept_last {out} s =
      let w = s.walking in
      let each : (k : ℕ) → k < n → IsLabel names k (number_at out k) = λ k h. w.right k h (w.past k k h h here) in
      w.labels.bytes
      ∙ ap (λ (l : List ℕ). words_of l ++ drop (number_size * n) out)
      (labels_unique (record { long = w.labels.long; each = λ k h. subst (IsLabel names k) (number_read w.labels k h) (each k h) }) (labels_by_lem names w.inside))
