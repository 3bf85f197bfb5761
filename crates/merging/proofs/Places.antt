-- Numbers at places: two that change places, and the same numbers in another order.
use Prim.Native.Nat.{ℕ, ◌*◌, ◌<◌, ◌≤◌}
use native.Mathlib.Omega.{arith}
use native.Mathlib.Decide.{ℕ_discrete, dec_le}
use mathlib.Core.Path.{◌≡◌, refl, sym, ◌∙◌}
use mathlib.Core.List.{List}
use Rattle.words.specs.Bytes.{put_u32, number_at}
use Rattle.words.proofs.Splice.{u32_at_same}
use Rattle.words.proofs.Collecting.{from_next}
use Rattle.words.proofs.Numbers.{PutAt, put_at}
use Rattle.ship.specs.Layout.{number_size}
use Rattle.merging.specs.Flood.{RisingFrom, StandsIn, Reordered, SwapReady, Swapped}

-- ---- two that change places
pub swapped : {list list₁ list₂ : List ℕ} {i w x y : ℕ} → SwapReady list i w → x ≡ number_at list i → y ≡ number_at list w → list₁ ≡ put_u32 list (number_size * w) x
    → list₂ ≡ put_u32 list₁ (number_size * i) y → Swapped list list₂ i w
swapped {list} {list₁} {list₂} {i} {w} {x} {y} r ex ey e f =
    let l = r.low in
    let room = r.room in
    let p = put_at room e in
    let long = p.long in
    let q : PutAt list₁ list₂ i y = put_at (omega arith) f in
    record {
      long = q.long ∙ p.long;
      before = λ k h. q.before k h ∙ p.before k (omega arith);
      first = q.there ∙ ey;
      second = go p q (ℕ_discrete w i);
      others = λ k a b. q.others k a ∙ p.others k b;
    }
  where
    go : PutAt list list₁ w x → PutAt list₁ list₂ i y → Dec (w ≡ i) → number_at list₂ w ≡ number_at list i
    go p q (yes d) = rw d (q.there ∙ ey ∙ rw d)
    go p q (no d) = q.others w d ∙ p.there ∙ ex

-- ---- numbers that rise
pub least : (list : List ℕ) {t n : ℕ} → RisingFrom list t n → (k : ℕ) → t ≤ k → k < n → number_at list t ≤ number_at list k
least list {t} r k a b = from_next (λ (j : ℕ). number_at list t ≤ number_at list j) t k (omega arith) a (λ c. omega (arith, r t k (omega arith) (omega arith) b))

-- ---- the same numbers in another order
module _ {list list' : List ℕ} {t n : ℕ} (r : Reordered list list' t n) where
  -- no number before them is another
  pub number_before : (k : ℕ) → k < t → number_at list' k ≡ number_at list k
  number_before k h = u32_at_same list' list (number_size * k) (λ j a b. r.before j (omega arith))

  pub reordered_from : {u : ℕ} → u ≤ t → Reordered list list' u n
  reordered_from {u} l =
      record {
        long = r.long;
        before = λ k h. r.before k (omega arith);
        old = λ k a b. old k a b (dec_le t k);
        kept = λ k a b. kept k a b (dec_le t k);
      }
    where
      old : (k : ℕ) → u ≤ k → k < n → Dec (t ≤ k) → StandsIn list u n (number_at list' k)
      old k a b (yes c) = let s = r.old k c b in record { place = s.place; low = omega (arith, s.low); high = s.high; is = s.is }
      old k a b (no c) = record { place = k; low = a; high = b; is = number_before k (omega (arith, c)) }

      kept : (k : ℕ) → u ≤ k → k < n → Dec (t ≤ k) → StandsIn list' u n (number_at list k)
      kept k a b (yes c) = let s = r.kept k c b in record { place = s.place; low = omega (arith, s.low); high = s.high; is = s.is }
      kept k a b (no c) = record { place = k; low = a; high = b; is = sym (number_before k (omega (arith, c))) }

  pub reordered_again : {list'' : List ℕ} → Reordered list' list'' t n → Reordered list list'' t n
  reordered_again {list''} q =
      record {
        long = q.long ∙ r.long;
        before = λ k h. q.before k h ∙ r.before k h;
        old = λ k a b. let s = q.old k a b in let u = r.old s.place s.low s.high in record { place = u.place; low = u.low; high = u.high; is = s.is ∙ u.is };
        kept = λ k a b. let s = r.kept k a b in let u = q.kept s.place s.low s.high in record { place = u.place; low = u.low; high = u.high; is = s.is ∙ u.is };
      }

pub reordered_none : {list : List ℕ} {t n : ℕ} → Reordered list list t n
reordered_none =
    record {
      long = refl;
      before = λ k h. refl;
      old = λ k a b. record { place = k; low = a; high = b; is = refl };
      kept = λ k a b. record { place = k; low = a; high = b; is = refl };
    }

pub reordered_swap : {list list' : List ℕ} {i w n : ℕ} → i ≤ w → w < n → Swapped list list' i w → Reordered list list' i n
reordered_swap {list} {list'} {i} {w} {n} l h s =
    record {
      long = s.long;
      before = s.before;
      old = λ k a b. old k a b (ℕ_discrete k i) (ℕ_discrete k w);
      kept = λ k a b. kept k a b (ℕ_discrete k i) (ℕ_discrete k w);
    }
  where
    old : (k : ℕ) → i ≤ k → k < n → Dec (k ≡ i) → Dec (k ≡ w) → StandsIn list i n (number_at list' k)
    old k a b (yes e) q = record { place = w; low = l; high = h; is = rw e s.first }
    old k a b (no d) (yes e) = record { place = i; low = omega arith; high = omega arith; is = rw e s.second }
    old k a b (no d) (no e) = record { place = k; low = a; high = b; is = s.others k d e }

    kept : (k : ℕ) → i ≤ k → k < n → Dec (k ≡ i) → Dec (k ≡ w) → StandsIn list' i n (number_at list k)
    kept k a b (yes e) q = record { place = w; low = l; high = h; is = rw e (sym s.second) }
    kept k a b (no d) (yes e) = record { place = i; low = omega arith; high = omega arith; is = rw e (sym s.first) }
    kept k a b (no d) (no e) = record { place = k; low = a; high = b; is = sym (s.others k d e) }

pub ruleset swapping = (swapped)
