-- Laws of reach. A label is unique, and so is the list of labels.
use Prim.Native.Nat.{ℕ, ◌<◌, ◌≤◌}
use native.Mathlib.Omega.{arith}
use mathlib.Core.Path.{◌≡◌, sym, ◌∙◌}
use mathlib.Core.Bool.{Bool}
use mathlib.Core.List.{List}
use lib.Dec.{T}
use lib.Seq.{ext_get_or}
use Rattle.islands.specs.Reach.{Reaches, here, step, IsLabel, Labels}

module _ {names : ℕ → ℕ → Bool} where
  pub reach_join : {a b c : ℕ} → Reaches names a b → Reaches names b c → Reaches names a c
  reach_join here s = s
  reach_join (step h r) s = step h (reach_join r s)

  -- one name more at the end
  pub reach_more : {a b c : ℕ} → Reaches names a b → T (names b c) → Reaches names a c
  reach_more r h = reach_join r (step h here)

  -- what is true of a and passes on to each that is named is true of all that a reaches
  pub along : (P : ℕ → Type 0) → ((a b : ℕ) → P a → T (names a b) → P b) → (a b : ℕ) → Reaches names a b → P a → P b
  along P f a b here p = p
  along P f a b (step {c = c} h r) p = along P f c b r (f a c p h)

  pub reach_inside : {n a b : ℕ} → ((a b : ℕ) → a < n → T (names a b) → b < n) → Reaches names a b → a < n → b < n
  reach_inside {n} {a} {b} inside r l = along (λ k. k < n) inside a b r l

  label_unique : {k l m : ℕ} → IsLabel names k l → IsLabel names k m → l ≡ m
  label_unique {k} {l} {m} x y =
      let p : l ≤ m = x.least m y.reached in
      let q : m ≤ l = y.least l x.reached in
      omega arith

  pub labels_unique : {n : ℕ} {a b : List ℕ} → Labels names n a → Labels names n b → a ≡ b
  labels_unique {n} {a} {b} x y =
      ext_get_or 0 a b (x.long ∙ sym y.long) (λ k h. label_unique (x.each k (rw x.long at h)) (y.each k (rw x.long at h)))
