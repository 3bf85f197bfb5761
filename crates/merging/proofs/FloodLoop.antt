-- The loops of `part` and `flood`: what they say at their start, in a turn and at their end.
use Prim.Native.Nat.{ℕ, ◌+◌, ◌-◌, ◌*◌, ◌<◌, ◌≤◌}
use native.Mathlib.Omega.{arith}
use native.Mathlib.Decide.{ℕ_discrete, dec_le}
use mathlib.Core.Path.{◌≡◌, sym, ◌∙◌}
use mathlib.Core.Bool.{Bool, true, false, not}
use mathlib.Core.List.{List}
use lib.Dec.{T}
use lib.ListN.{length}
use borrow.Author.Tests.{not-true, not-false}
use Rattle.words.specs.Bytes.{number_at}
use Rattle.words.specs.Rows.{has}
use Rattle.words.proofs.Collecting.{holds}
use Rattle.ship.specs.Layout.{number_size}
use Rattle.ship.specs.Decode.{decode}
use Rattle.touching.specs.Touching.{touches, PolygonThere}
use Rattle.touching.specs.Reach.{Chain, here, on}
use Rattle.merging.specs.Flood.{Reordered, SwapReady, Swapped, PartReady, Parted, FloodReady, Flooded}
use Rattle.merging.proofs.Places.{number_before, reordered_none, reordered_from, reordered_again, reordered_swap}

-- ---- `part`
-- those from i on are parted, those before i stand where they stood
pub record Parting (file list₀ list : List ℕ) (a t n i w : ℕ) : Type 0 where
  pub ready : PartReady file list₀ a t n
  pub low : t ≤ i
  pub parted : Parted file list₀ list a n i w

pub parting_none : {file list : List ℕ} {a t n : ℕ} → PartReady file list a t n → Parting file list list a t n n n
parting_none r =
    record {
      ready = r;
      low = r.low;
      parted =
          record {
            reordered = reordered_none;
            mid = omega arith;
            high = omega arith;
            touched = λ k a b. absurd (omega arith);
            apart = λ k a b. absurd (omega arith);
            rising = λ j k a b c. absurd (omega arith);
          };
    }

module _ {file list₀ list : List ℕ} {a t n i w : ℕ} (p : Parting file list₀ list a t n i w) where
  pub parting_touch : PolygonThere file a
  parting_touch = p.ready.touch

  pub parting_all : i ≤ t → Parted file list₀ list a n t w
  parting_all h = let e : i ≡ t = omega (arith, p.low) in rw e at p.parted

  module _ (h : t < i) where
    pub parting_room : number_size * (i - 1) + number_size ≤ length list
    parting_room = let e = p.parted.reordered.long in omega (arith, p.ready.room, p.parted.mid, p.parted.high)

    pub parting_swap : SwapReady list (i - 1) (w - 1)
    parting_swap =
        let e = p.parted.reordered.long in
        record { low = omega (arith, p.parted.mid); room = omega (arith, p.ready.room, p.parted.mid, p.parted.high) }

    module _ {x : ℕ} (here : x ≡ number_at list (i - 1)) {r : Bool} (is : r ≡ touches (decode file) a x) where
      pub parting_touched : not r ≡ false → Parting file list₀ list a t n (i - 1) w
      parting_touched e =
          let old = p.parted in
          record {
            ready = p.ready;
            low = omega arith;
            parted =
                record {
                  reordered = reordered_from old.reordered (omega arith);
                  mid = omega (arith, old.mid);
                  high = old.high;
                  touched = λ k b c. go k b c (dec_le i k);
                  apart = old.apart;
                  rising = old.rising;
                };
          }
        where
          go : (k : ℕ) → i - 1 ≤ k → k < w → Dec (i ≤ k) → touches (decode file) a (number_at list k) ≡ true
          go k b c (yes d) = p.parted.touched k d c
          go k b c (no d) = let q : k ≡ i - 1 = omega (arith, d) in rw (q, ← here) (sym is ∙ not-false r e)

      pub parting_apart : not r ≡ true → {list' : List ℕ} → Swapped list list' (i - 1) (w - 1) → Parting file list₀ list' a t n (i - 1) (w - 1)
      parting_apart e {list'} s =
          let old = p.parted in
          let l = old.mid in
          let u = old.high in
          record {
            ready = p.ready;
            low = omega arith;
            parted =
                record {
                  reordered = reordered_again (reordered_from old.reordered (omega arith)) (reordered_swap (omega arith) (omega arith) s);
                  mid = omega arith;
                  high = omega arith;
                  touched = λ k b c. touched k b c (ℕ_discrete k (i - 1));
                  apart = λ k b c. apart k b c (ℕ_discrete k (w - 1));
                  rising = λ j k b c d. rising j k b c d (ℕ_discrete j (w - 1));
                };
          }
        where
          touched : (k : ℕ) → i - 1 ≤ k → k < w - 1 → Dec (k ≡ i - 1) → touches (decode file) a (number_at list' k) ≡ true
          touched k b c (yes q) = rw (q, s.first) (p.parted.touched (w - 1) (omega arith) (omega arith))
          touched k b c (no d) = rw (s.others k d (λ q. absurd (omega arith))) (p.parted.touched k (omega (arith, d)) (omega arith))

          apart : (k : ℕ) → w - 1 ≤ k → k < n → Dec (k ≡ w - 1) → touches (decode file) a (number_at list' k) ≡ false
          apart k b c (yes q) = rw (q, s.second, ← here) (sym is ∙ not-true r e)
          apart k b c (no d) =
              let l = p.parted.mid in
              rw (s.others k (λ q. absurd (omega (arith, d))) d) (p.parted.apart k (omega (arith, d)) c)

          later : (k : ℕ) → w - 1 < k → number_at list' k ≡ number_at list k
          later k b = let l = p.parted.mid in s.others k (λ q. absurd (omega arith)) (λ q. absurd (omega arith))

          rising : (j k : ℕ) → w - 1 ≤ j → j < k → k < n → Dec (j ≡ w - 1) → number_at list' j < number_at list' k
          rising j k b c d (yes q) =
              let l = p.parted.mid in
              let from = p.parted.reordered.old k (omega arith) d in
              let less = p.ready.rising (i - 1) from.place (omega arith) (omega (arith, from.low)) from.high in
              let first : number_at list' j ≡ number_at list (i - 1) = rw q s.second in
              omega (arith, number_before p.parted.reordered (i - 1) (omega arith), from.is, later k (omega arith))
          rising j k b c d (no q) = omega (arith, later j (omega (arith, q)), later k (omega arith), p.parted.rising j k (omega (arith, q)) c d)

pub ruleset parting = (parting_none, parting_touch, parting_all, parting_room, parting_swap, parting_touched, parting_apart)

-- ---- `flood`
-- what is reached stands before t, and what is reached and stands before h touches none that is left
pub record Flooding (file list₀ list : List ℕ) (head n h t : ℕ) : Type 0 where
  pub ready : FloodReady file list₀ head n
  pub low : head ≤ h
  pub flooded : Flooded file list₀ list head n h t

pub flooding_none : {file list : List ℕ} {head n : ℕ} → FloodReady file list head n → Flooding file list list head n head (head + 1)
flooding_none {file} {list} {head} r =
    record {
      ready = r;
      low = omega arith;
      flooded =
          record {
            reordered = reordered_none;
            low = omega arith;
            mid = omega arith;
            high = omega (arith, r.some);
            rising = λ j k a b c. r.rising j k (omega arith) b c;
            reached = λ m all_in k a b. let e : k ≡ head = omega arith in rw e here;
            closed = λ k j a b c d. absurd (omega arith);
          };
    }

module _ {file list₀ list : List ℕ} {head n h t : ℕ} (f : Flooding file list₀ list head n h t) where
  pub flooding_all : t ≤ h → Flooded file list₀ list head n t t
  flooding_all l = let e : h ≡ t = omega (arith, f.flooded.mid) in rw e at f.flooded

  module _ (l : h < t) where
    pub flooding_room : number_size * h + number_size ≤ length list
    flooding_room = let e = f.flooded.reordered.long in omega (arith, f.ready.room, f.flooded.high)

    module _ {a : ℕ} (is : a ≡ number_at list h) where
      pub flooding_ready : PartReady file list a t n
      flooding_ready =
          let e = f.flooded.reordered.long in
          let s = (reordered_from f.flooded.reordered {u = head} (omega arith)).old h f.low (omega (arith, f.flooded.high)) in
          record {
            touch = rw (is, s.is) (f.ready.there s.place s.low s.high);
            low = f.flooded.high;
            room = omega (arith, f.ready.room);
            rising = f.flooded.rising;
          }

      pub flooding_more : {list' : List ℕ} {r : ℕ} → Parted file list list' a n t r → Flooding file list₀ list' head n (h + 1) r
      flooding_more {list'} {r} p =
          let old = f.flooded in
          let low = old.low in
          let mid = p.mid in
          record {
            ready = f.ready;
            low = omega (arith, f.low);
            flooded =
                record {
                  reordered = all;
                  low = omega arith;
                  mid = omega arith;
                  high = p.high;
                  rising = p.rising;
                  reached = λ m all_in k b c. reached m all_in k b c (dec_le t k);
                  closed = λ k j b c d e. closed k j b c d e (ℕ_discrete k h);
                };
          }
        where
          all : Reordered list₀ list' (head + 1) n
          all = reordered_again f.flooded.reordered (reordered_from p.reordered (omega (arith, f.flooded.low)))

          reached : (m : List ℕ) → ((k : ℕ) → head ≤ k → k < n → T (has m (number_at list₀ k))) → (k : ℕ) → head ≤ k → k < r → Dec (t ≤ k)
              → Chain (touches (decode file)) m (number_at list₀ head) (number_at list' k)
          reached m all_in k b c (yes d) =
              let s = (reordered_from all {u = head} (omega arith)).old k b (omega (arith, p.high)) in
              on {c = number_at list' k}
              (rw (← is) at (f.flooded.reached m all_in h f.low (omega arith)))
              (rw s.is (all_in s.place s.low s.high))
              (holds (touches (decode file) a (number_at list' k)) (p.touched k d c))
          reached m all_in k b c (no d) = rw (number_before p.reordered k (omega (arith, d))) (f.flooded.reached m all_in k b (omega (arith, d)))

          closed : (k j : ℕ) → head ≤ k → k < h + 1 → r ≤ j → j < n → Dec (k ≡ h) → touches (decode file) (number_at list' k) (number_at list' j) ≡ false
          closed k j b c d e (yes q) = rw (q, number_before p.reordered h (omega arith), ← is) (p.apart j d e)
          closed k j b c d e (no q) =
              let s = p.reordered.old j (omega (arith, p.mid)) e in
              rw (number_before p.reordered k (omega (arith, q)), s.is) (f.flooded.closed k s.place b (omega (arith, q)) s.low s.high)

pub ruleset flooding = (flooding_none, flooding_all, flooding_room, flooding_ready, flooding_more)
