-- The loop of `merge_touching_readings`: what is left is reached by none of the others, so its first number stays and what that floods drops out.
use Prim.Native.Nat.{ℕ, ◌+◌, ◌*◌, ◌<◌, ◌≤◌}
use native.Mathlib.Omega.{arith}
use native.Mathlib.Decide.{dec_le}
use mathlib.Core.Path.{◌≡◌, refl, sym, ap, ◌∙◌}
use mathlib.Core.Logic.{◌⊎◌, inl, inr, ⊎_elim}
use mathlib.Core.Bool.{false}
use mathlib.Core.List.{List, [], ◌∷◌, ◌++◌, append_assoc, append-nil}
use lib.Dec.{T}
use lib.ListN.{length, get_or, take, length-append}
use Rattle.words.specs.Bytes.{joined, words_of, put_u32, number_at}
use Rattle.words.specs.Rows.{has}
use Rattle.words.proofs.Collecting.{three, not_holds, collect_none}
use Rattle.words.proofs.Numbers.{PutAt, put_at}
use Rattle.ship.specs.Layout.{number_size}
use Rattle.ship.specs.Decode.{decode}
use Rattle.touching.specs.Touching.{touches}
use Rattle.touching.specs.Reach.{Chain, here, on}
use Rattle.merging.specs.Merging.{numbers_in, staying, ListReady, ListMerged}
use Rattle.merging.specs.Flood.{RisingFrom, StandsIn, FloodReady, Flooded}
use Rattle.merging.proofs.Staying.{number_is, numbers_have, numbers_which, words_snoc, take_same, take_put, Dropped, stays, staying_from, staying_all, stays_yes, stays_no, staying_step}
use Rattle.merging.proofs.Places.{least, reordered_from}

-- the place in the list at first of the first number that is left, or the list's end
record Front (list₀ list : List ℕ) (n t : ℕ) : Type 0 where
  m : ℕ
  small : m ≤ n
  next : t < n → (m < n) × (number_at list t ≡ number_at list₀ m)
  end : n ≤ t → m ≡ n

front_of : (list₀ list : List ℕ) (n t : ℕ) → ((k : ℕ) → t ≤ k → k < n → StandsIn list₀ 0 n (number_at list k)) → Dec (n ≤ t) → Front list₀ list n t
front_of list₀ list n t old (yes h) = record { m = n; small = omega arith; next = λ l. absurd (omega arith); end = λ l. refl }
front_of list₀ list n t old (no h) =
    let s = old t (omega arith) (omega (arith, h)) in
    let high = s.high in
    record { m = s.place; small = omega arith; next = λ l. (high, s.is); end = λ l. absurd (h l) }

-- number j of the list at first is not left: it touches none that is, and it stays or drops out
record Settled (file list₀ list : List ℕ) (n t m j : ℕ) : Type 0 where
  closed : (k : ℕ) → t ≤ k → k < n → touches (decode file) (number_at list₀ j) (number_at list k) ≡ false
  out : (j < m) ⊎ Dropped file list₀ n j

pub record Merging (file list₀ list : List ℕ) (n kept t : ℕ) : Type 0 where
  pub ready : ListReady file list₀ n
  pub low : kept ≤ t
  pub high : t ≤ n
  pub long : length list ≡ length list₀
  pub rising : RisingFrom list t n
  old : (k : ℕ) → t ≤ k → k < n → StandsIn list₀ 0 n (number_at list k)
  front : Front list₀ list n t
  settled : (j : ℕ) → j < n → StandsIn list t n (number_at list₀ j) ⊎ Settled file list₀ list n t front.m j
  stayed : List ℕ
  whole : staying file list₀ n ≡ stayed ++ staying_from file list₀ n front.m
  count : length stayed ≡ kept
  bytes : take (number_size * kept) list ≡ words_of stayed

pub merging_none : {file list : List ℕ} {n : ℕ} → ListReady file list n → Merging file list list n 0 0
unfolding joined
merging_none {file} {list} {n} r =
    record {
      ready = r;
      low = omega arith;
      high = omega arith;
      long = refl;
      rising = λ j k a b c. r.rising j k b c;
      old = λ k a b. record { place = k; low = a; high = b; is = refl };
      front = record { m = 0; small = omega arith; next = λ l. (l, refl); end = λ l. omega arith };
      settled = λ j h. inl (record { place = j; low = omega arith; high = h; is = refl });
      stayed = [];
      whole = staying_all file list n;
      count = refl;
      bytes = refl;
    }

module _ {file list₀ list : List ℕ} {n kept t : ℕ} (g : Merging file list₀ list n kept t) where
  -- at the end
  pub merging_all : n ≤ t → ListMerged file list₀ list n kept
  merging_all h =
      let none : staying_from file list₀ n g.front.m ≡ [] = rw (g.front.end h) (collect_none (stays file list₀ n) (λ j. get_or (numbers_in list₀ n) j 0 ∷ []) n n (omega arith)) in
      let whole : staying file list₀ n ≡ g.stayed = g.whole ∙ rw (none, append-nil) in
      record { count = rw whole (sym g.count); first = rw whole g.bytes; long = g.long }

  module _ (h : t < n) where
    pub merging_room : number_size * t + number_size ≤ length list
    merging_room = omega (arith, g.ready.room, g.long)

    pub merging_flood : FloodReady file list t n
    merging_flood =
        record {
          some = h;
          room = omega (arith, g.ready.room, g.long);
          there = λ k a b. let s = g.old k a b in rw s.is (g.ready.there s.place s.high);
          rising = g.rising;
        }

    -- ---- the first that is left stays
    is_first : number_at list t ≡ number_at list₀ g.front.m
    is_first = (g.front.next h).1

    in_list : g.front.m < n
    in_list = (g.front.next h).0

    -- a number of the list at first that is not left
    record Gone (x : ℕ) : Type 0 where
      listed : StandsIn list₀ 0 n x
      not_left : StandsIn list t n x → ⊥

    gone_hop : (b c : ℕ) → Gone b → T (has (numbers_in list₀ n) c) → T (touches (decode file) b c) → Gone c
    gone_hop b c w m u = record { listed = numbers_which list₀ n c m; not_left = λ s. go s (g.settled w.listed.place w.listed.high) }
      where
        go : StandsIn list t n c → StandsIn list t n (number_at list₀ w.listed.place) ⊎ Settled file list₀ list n t g.front.m w.listed.place → ⊥
        go s (inl left) = w.not_left (rw w.listed.is left)
        go s (inr e) = not_holds (touches (decode file) b c) (rw (w.listed.is, s.is) (e.closed s.place s.low s.high)) u

    gone_chain : {a b : ℕ} → Gone a → Chain (touches (decode file)) (numbers_in list₀ n) a b → Gone b
    gone_chain w here = w
    gone_chain w (on {b} {c} r m u) = gone_hop b c (gone_chain w r) m u

    first_stays : Dropped file list₀ n g.front.m → ⊥
    first_stays d =
        let u = in_list in
        let e = d.earlier in
        let start : Gone (number_at list₀ d.i) =
        record {
          listed = record { place = d.i; low = omega arith; high = omega arith; is = refl };
          not_left = λ s. absurd (omega (arith, g.ready.rising d.i g.front.m e u, is_first, s.is, least list g.rising s.place s.low s.high));
        } in
        let chain : Chain (touches (decode file)) (numbers_in list₀ n) (number_at list₀ d.i) (number_at list₀ g.front.m) = rw (number_is list₀ n d.i (omega arith), number_is list₀ n g.front.m u) at d.chain in
        (gone_chain start chain).not_left (record { place = t; low = omega arith; high = h; is = sym is_first })

    -- ---- what it floods drops out
    left_listed : (k : ℕ) → t ≤ k → k < n → T (has (numbers_in list₀ n) (number_at list k))
    left_listed k a b = let o = g.old k a b in rw o.is (numbers_have list₀ n o.place o.high)

    module _ {list' : List ℕ} {r : ℕ} (f : Flooded file list list' t n r r) where
      -- a number that was left has a place now
      now_at : (j : ℕ) → StandsIn list t n (number_at list₀ j) → StandsIn list' t n (number_at list₀ j)
      now_at j s =
          let u = (reordered_from f.reordered {u = t} (omega arith)).kept s.place s.low s.high in
          record { place = u.place; low = u.low; high = u.high; is = s.is ∙ u.is }

      drops_out : (j : ℕ) → j < n → g.front.m < j → (s : StandsIn list' t n (number_at list₀ j)) → s.place < r → Dropped file list₀ n j
      drops_out j b c s l =
          let chain = f.reached (numbers_in list₀ n) left_listed s.place s.low l in
          record {
            i = g.front.m;
            earlier = c;
            chain = rw (number_is list₀ n g.front.m in_list, number_is list₀ n j b, ← is_first, s.is) chain;
          }

      module _ {list'' : List ℕ} (p : PutAt list' list'' kept (number_at list t)) where
        past : kept < r
        past = omega (arith, g.low, f.low)

        -- the rest is as the flood left it
        same : (k : ℕ) → r ≤ k → number_at list'' k ≡ number_at list' k
        same k a = let q = past in p.others k (λ e. absurd (omega arith))

        was_left : (k : ℕ) → r ≤ k → k < n → StandsIn list (t + 1) n (number_at list'' k)
        was_left k a b =
            let s = f.reordered.old k (omega (arith, f.low)) b in
            record { place = s.place; low = s.low; high = s.high; is = same k a ∙ s.is }

        old'' : (k : ℕ) → r ≤ k → k < n → StandsIn list₀ 0 n (number_at list'' k)
        old'' k a b =
            let s = was_left k a b in
            let o = g.old s.place (omega (arith, s.low)) s.high in
            record { place = o.place; low = o.low; high = o.high; is = s.is ∙ o.is }

        front'' : Front list₀ list'' n r
        front'' = front_of list₀ list'' n r old'' (dec_le n r)

        -- it is a later one
        later : g.front.m < front''.m
        later = go (dec_le n r)
          where
            order : (j k : ℕ) → j < n → number_at list₀ k < number_at list₀ j → (k < j) ⊎ (k ≡ j) ⊎ (j < k) → k < n → k < j
            order j k b l (inl c) d = c
            order j k b l (inr (inl e)) d = absurd (omega (arith, ap (number_at list₀) e))
            order j k b l (inr (inr c)) d = absurd (omega (arith, g.ready.rising j k c d))

            go : Dec (n ≤ r) → g.front.m < front''.m
            go (yes e) = omega (arith, in_list, front''.end e)
            go (no d) =
                let next = front''.next (omega (arith, d)) in
                let s = was_left r (omega arith) (omega (arith, d)) in
                let less = g.rising t s.place (omega arith) (omega (arith, s.low)) s.high in
                order front''.m g.front.m next.0 (omega (arith, is_first, next.1, s.is)) (three g.front.m front''.m) in_list

        between : (j : ℕ) → g.front.m < j → j < front''.m → Dropped file list₀ n j
        between j a b = go (g.settled j small)
          where
            small : j < n
            small = omega (arith, front''.small)

            caught : (s : StandsIn list' t n (number_at list₀ j)) → Dec (r ≤ s.place) → Dropped file list₀ n j
            caught s (yes c) =
                let d = s.high in
                let next = front''.next (omega arith) in
                let less = g.ready.rising j front''.m b next.0 in
                absurd (omega (arith, s.is, same r (omega arith), next.1, least list' f.rising s.place c d))
            caught s (no c) = drops_out j small a s (omega (arith, c))

            go : StandsIn list t n (number_at list₀ j) ⊎ Settled file list₀ list n t g.front.m j → Dropped file list₀ n j
            go (inl s) = let u = now_at j s in caught u (dec_le r u.place)
            go (inr e) = ⊎_elim (λ c. absurd (omega arith)) (λ d. d) e.out

        settled'' : (j : ℕ) → j < n → StandsIn list'' r n (number_at list₀ j) ⊎ Settled file list₀ list'' n r front''.m j
        settled'' j h' = go (g.settled j h')
          where
            out : (s : StandsIn list' t n (number_at list₀ j)) → s.place < r → (j < g.front.m) ⊎ (j ≡ g.front.m) ⊎ (g.front.m < j) → (j < front''.m) ⊎ Dropped file list₀ n j
            out s l (inl c) = inl (omega (arith, later))
            out s l (inr (inl e)) = inl (omega (arith, later))
            out s l (inr (inr c)) = inr (drops_out j h' c s l)

            caught : (s : StandsIn list' t n (number_at list₀ j)) → Dec (r ≤ s.place) → StandsIn list'' r n (number_at list₀ j) ⊎ Settled file list₀ list'' n r front''.m j
            caught s (yes c) = inl (record { place = s.place; low = c; high = s.high; is = s.is ∙ sym (same s.place c) })
            caught s (no c) =
                inr (record {
                  closed = λ k a b. rw (s.is, same k a) (f.closed s.place k s.low (omega (arith, c)) a b);
                  out = out s (omega (arith, c)) (three j g.front.m);
                })

            go : StandsIn list t n (number_at list₀ j) ⊎ Settled file list₀ list n t g.front.m j → StandsIn list'' r n (number_at list₀ j) ⊎ Settled file list₀ list'' n r front''.m j
            go (inl s) = let u = now_at j s in caught u (dec_le r u.place)
            go (inr e) =
                inr (record {
                  closed = λ k a b. let s = was_left k a b in rw s.is (e.closed s.place (omega (arith, s.low)) s.high);
                  out = ⊎_elim (λ c. inl (omega (arith, later))) (λ d. inr d) e.out;
                })

      pub merging_more : {list'' : List ℕ} {first : ℕ} → first ≡ number_at list t → list'' ≡ put_u32 list' (number_size * kept) first → Merging file list₀ list'' n (kept + 1) r
      merging_more {list''} {first} is e =
          let m = g.front.m in
          let long' = f.reordered.long in
          let room = g.ready.room in
          let low = g.low in
          let e' : list'' ≡ put_u32 list' (number_size * kept) (number_at list t) = rw (← is) e in
          let fits : number_size * kept + 4 ≤ length list' = omega (arith, g.long) in
          let p = put_at fits e' in
          let step = staying_step file list₀ n m (front'' p).m (later p) (front'' p).small (stays_yes file list₀ n m in_list first_stays)
          (λ j a b. stays_no file list₀ n j (omega (arith, (front'' p).small)) (between p j a b)) in
          record {
            ready = g.ready;
            low = omega (arith, f.low);
            high = f.high;
            long = p.long ∙ long' ∙ g.long;
            rising = λ j k a b c. omega (arith, same p j a, same p k (omega arith), f.rising j k a b c);
            old = old'' p;
            front = front'' p;
            settled = settled'' p;
            stayed = g.stayed ++ number_at list t ∷ [];
            whole = g.whole ∙ rw (step, append_assoc, ← is_first);
            count = length-append g.stayed (number_at list t ∷ []) ∙ rw g.count;
            bytes = written e' fits;
          }
        where
          written : list'' ≡ put_u32 list' (number_size * kept) (number_at list t) → number_size * kept + 4 ≤ length list'
              → take (number_size * (kept + 1)) list'' ≡ words_of (g.stayed ++ number_at list t ∷ [])
          written q fits =
              let more : number_size * (kept + 1) ≡ number_size * kept + 4 = omega arith in
              let low = g.low in
              let front_same : take (number_size * kept) list' ≡ words_of g.stayed = take_same (number_size * kept) list' list f.reordered.long (omega arith) (λ k a. f.reordered.before k (omega arith)) ∙ g.bytes in
              rw (more, q) (take_put list' (number_size * kept) (number_at list t) fits ∙ rw front_same (sym (words_snoc g.stayed (number_at list t))))

pub ruleset merging = (merging_none, merging_all, merging_room, merging_flood, merging_more)
