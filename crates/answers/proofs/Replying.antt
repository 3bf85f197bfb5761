-- A call that writes, in its three ways: it is refused, its answer is too long for the output, or it writes. And what a caller learns from each.
use Prim.Native.Nat.{ℕ, ◌*◌, ◌^◌, ◌≤◌, ◌<◌}
use native.Mathlib.Omega.{arith}
use mathlib.Core.Path.{◌≡◌, refl, sym, ap, ◌∙◌, subst}
use mathlib.Core.Bool.{Bool, true, false, not}
use mathlib.Core.List.{List, [], ◌++◌}
use lib.ListN.{length, drop, replicate, length-append, length-drop, length-replicate}
use lib.IntN.{ℤ}
use Rattle.words.specs.Bytes.{joined}
use Rattle.std.specs.Prelude.{Ok, Err}
use Rattle.answers.specs.declared.Refusal.{Refusal}
use Rattle.answers.specs.declared.Refusal.TheVariants.{NoRoom}
use Rattle.answers.specs.Checks.{Check, ask, after}
use Rattle.answers.specs.Questions.{question20}
use Rattle.answers.specs.Replies.{Answer, Reply, reply_of, reply_check, answer_for, output_for, answer_to, output_to, Replied, code_of, AnswerFits, RepliedCode, with_room, work_for, work_to, Worked, WorkedCode, with_table, table_to, Tabled, TabledCode}
use Rattle.answers.proofs.Asking.{said_no, said_yes, asked_yes, both_passed, q20_no, q20_yes, q20_short, q20_fits}

-- ---- the check with 20
module _ (reply : Reply) (room : ℕ) where
  pub check_refused : {refusal : Refusal} → reply.check ≡ Err refusal → reply_check reply room ≡ Err refusal
  unfolding reply_check
  check_refused e = rw e

  module _ (yes : reply.check ≡ Ok tt) where
    pub check_short : room < length reply.bytes → reply_check reply room ≡ Err NoRoom
    unfolding reply_check
    check_short l = rw (yes, q20_no (length reply.bytes) room l)

    pub check_passed : length reply.bytes ≤ room → reply_check reply room ≡ Ok tt
    unfolding reply_check
    check_passed l = rw (yes, q20_yes (length reply.bytes) room l)

  pub passed_check : reply_check reply room ≡ Ok tt → (reply.check ≡ Ok tt) × (length reply.bytes ≤ room)
  unfolding reply_check
  passed_check e =
      let a = both_passed reply.check _ e in
      let b = asked_yes (question20 (length reply.bytes) room) NoRoom (Ok tt) a.1 in
      (a.0, q20_fits (length reply.bytes) room b.0)

-- what holds of every answer: the call was refused, or it passed and wrote its entries
pub of_reply : (reply : Reply) (out : List ℕ) (P : Answer → Type 0) → ((refusal : Refusal) → P (Err refusal))
    → (reply_check reply (length out) ≡ Ok tt → P (Ok reply.count)) → P (answer_to reply out)
unfolding answer_to
of_reply reply out P refused wrote = go (reply_check reply (length out)) refl
  where
    go : (c : Check) → reply_check reply (length out) ≡ c → P (answer_for c reply.count)
    go (Err refusal) e = refused refusal
    go (Ok passed) e = wrote e

-- ---- the three ways; r is what the call's own check returned
module _ {reply : Reply} {out : List ℕ} {r : Check} (asked : r ≡ reply.check) where
  pub replied_refused : {refusal : Refusal} → r ≡ Err refusal → Replied reply out out (Err refusal)
  unfolding answer_to output_to
  replied_refused e = let c = check_refused reply (length out) (sym asked ∙ e) in record { answer_is = rw c; output_is = rw c }

  module _ (yes : r ≡ Ok tt) where
    pub replied_short : length out < length reply.bytes → Replied reply out out (Err NoRoom)
    unfolding answer_to output_to
    replied_short l = let c = check_short reply (length out) (sym asked ∙ yes) l in record { answer_is = rw c; output_is = rw c }

    pub replied_written : {out' : List ℕ} {n : ℕ} → length reply.bytes ≤ length out → n ≡ reply.count → out' ≡ reply.bytes ++ drop (length reply.bytes) out
        → Replied reply out out' (Ok n)
    unfolding answer_to output_to
    replied_written l e o = let c = check_passed reply (length out) (sym asked ∙ yes) l in record { answer_is = rw (c, e); output_is = rw c o }

-- no entry
pub replied_none : {A : Type 0} {check : Check} (bytes_of : A → List ℕ) (entries : List A) {out : List ℕ} {r : Check} → r ≡ check → r ≡ Ok tt → entries ≡ []
    → Replied (reply_of check bytes_of entries) out out (Ok 0)
unfolding joined
replied_none bytes_of entries asked passed e = replied_written asked passed (rw e (omega arith)) (rw e) (rw e)

-- 20 was asked by a call of `room_for`, of as many entries of one size
module _ (reply : Reply) (out : List ℕ) (size count : ℕ) {fits : Bool} (long : length reply.bytes ≡ size * count)
    (said : fits ≡ question20 (size * count) (length out)) where
  pub room_short : not fits ≡ true → length out < length reply.bytes
  room_short no_room = rw long (q20_short (size * count) (length out) (said_no said no_room))

  pub room_fits : not fits ≡ false → length reply.bytes ≤ length out
  room_fits room = rw long (q20_fits (size * count) (length out) (said_yes said room))

pub ruleset replying = (replied_refused, replied_short, replied_written, replied_none, room_short, room_fits)

-- ---- what a caller learns
pub output_length : (reply : Reply) (out : List ℕ) → length (output_to reply out) ≡ length out
unfolding output_to
output_length reply out = go (reply_check reply (length out)) refl
  where
    go : (c : Check) → reply_check reply (length out) ≡ c → length (output_for c reply.bytes out) ≡ length out
    go (Ok passed) e = let l = (passed_check reply (length out) e).1 in simp (length-append, length-drop) (omega arith)
    go (Err refusal) e = refl

module _ (reply : Reply) (out : List ℕ) (passed : reply_check reply (length out) ≡ Ok tt) where
  pub answer_passed : answer_to reply out ≡ Ok reply.count
  unfolding answer_to
  answer_passed = rw passed

  pub output_passed : output_to reply out ≡ reply.bytes ++ drop (length reply.bytes) out
  unfolding output_to
  output_passed = rw passed

module _ {reply : Reply} {out out' : List ℕ} {r : Answer} (replied : Replied reply out out' r) where
  pub replied_length : length out' ≡ length out
  replied_length = ap length replied.output_is ∙ output_length reply out

  -- the check that gave the answer, one way or the other
  by_check : (P : Type 0) → ((reply_check reply (length out) ≡ Ok tt) → (r ≡ Ok reply.count) → (out' ≡ reply.bytes ++ drop (length reply.bytes) out) → P)
      → ((refusal : Refusal) → reply_check reply (length out) ≡ Err refusal → r ≡ Err refusal → P) → P
  unfolding answer_to output_to
  by_check P wrote refused = go (reply_check reply (length out)) refl replied.answer_is replied.output_is
    where
      go : (c : Check) → reply_check reply (length out) ≡ c → r ≡ answer_for c reply.count → out' ≡ output_for c reply.bytes out → P
      go (Ok passed) e a o = wrote e a o
      go (Err refusal) e a o = refused refusal e a

  pub wrote_check : {n : ℕ} → r ≡ Ok n → (reply.check ≡ Ok tt) × (length reply.bytes ≤ length out)
  wrote_check w =
      by_check ((reply.check ≡ Ok tt) × (length reply.bytes ≤ length out)) (λ e a o. passed_check reply (length out) e)
      (λ refusal e a. let z : ◌≡◌ {A = ℕ} 0 1 = cc in absurd (omega arith))

  pub wrote_count : {n : ℕ} → r ≡ Ok n → n ≡ reply.count
  wrote_count {n} w = by_check (n ≡ reply.count) (λ e a o. cc) (λ refusal e a. let z : ◌≡◌ {A = ℕ} 0 1 = cc in absurd (omega arith))

  pub wrote_bytes : {n : ℕ} → r ≡ Ok n → out' ≡ reply.bytes ++ drop (length reply.bytes) out
  wrote_bytes w =
      by_check (out' ≡ reply.bytes ++ drop (length reply.bytes) out) (λ e a o. o)
      (λ refusal e a. let z : ◌≡◌ {A = ℕ} 0 1 = cc in absurd (omega arith))

  -- a refusal where the output has room is the check's own
  pub refused_check : {refusal : Refusal} → r ≡ Err refusal → length reply.bytes ≤ length out → reply.check ≡ Err refusal
  unfolding reply_check
  refused_check {refusal} e l =
      by_check (reply.check ≡ Err refusal) (λ c a o. let z : ◌≡◌ {A = ℕ} 0 1 = cc in absurd (omega arith))
      (λ m c a. let same : m ≡ refusal = cc in go reply.check (rw (q20_yes (length reply.bytes) (length out) l) at c) same)
    where
      go : {m : Refusal} (c : Check) → after c (Ok tt) ≡ Err m → m ≡ refusal → c ≡ Err refusal
      go (Ok passed) h same = let z : ◌≡◌ {A = ℕ} 0 1 = cc in absurd (omega arith)
      go (Err k) h same = h ∙ ap Err same

  -- two bytes an entry are enough for the count to fit an i64
  pub replied_fits : 2 * reply.count ≤ length reply.bytes → length out < 2 ^ 64 → AnswerFits r
  replied_fits few long =
      by_check (AnswerFits r) (λ e a o. subst AnswerFits (sym a) (omega (arith, (passed_check reply (length out) e).1)))
      (λ refusal e a. subst AnswerFits (sym a) tt)

  pub replied_code : {z : ℤ} → z ≡ code_of r → RepliedCode reply out out' z
  replied_code e = record { code_is = e ∙ ap code_of replied.answer_is; output_is = replied.output_is }

-- ---- a call that is lent work as well
with_work : (c : Check) (wanted : ℕ) (work : List ℕ) → c ≡ Ok tt → wanted ≤ length work → after c (ask (question20 wanted (length work)) NoRoom (Ok tt)) ≡ Ok tt
with_work c wanted work passed wide = rw (passed, q20_yes wanted (length work) wide)

-- in its ways; c is what the call's own check returned
module _ {reply : Reply} {wanted : ℕ} {out work : List ℕ} {c : Check} (asked : c ≡ reply.check) where
  pub worked_refused : {refusal : Refusal} → c ≡ Err refusal → Worked reply wanted out out work work (Err refusal)
  unfolding answer_to output_to work_to
  worked_refused {refusal} e =
      let n : after reply.check (ask (question20 wanted (length work)) NoRoom (Ok tt)) ≡ Err refusal = rw (sym asked ∙ e) in
      let k = check_refused (with_room reply wanted work) (length out) n in
      record { replied = replied_refused refl n; work_is = rw k }

  module _ (yes : c ≡ Ok tt) where
    pub worked_narrow : length work < wanted → Worked reply wanted out out work work (Err NoRoom)
    unfolding answer_to output_to work_to
    worked_narrow l =
        let n : after reply.check (ask (question20 wanted (length work)) NoRoom (Ok tt)) ≡ Err NoRoom = rw (sym asked ∙ yes, q20_no wanted (length work) l) in
        let k = check_refused (with_room reply wanted work) (length out) n in
        record { replied = replied_refused refl n; work_is = rw k }

    module _ (wide : wanted ≤ length work) where
      pub worked_short : length out < length reply.bytes → Worked reply wanted out out work work (Err NoRoom)
      unfolding work_to
      worked_short l =
          let w = with_work reply.check wanted work (sym asked ∙ yes) wide in
          let k = check_short (with_room reply wanted work) (length out) w l in
          record { replied = replied_short refl w l; work_is = rw k }

      pub worked_written : {out' work' : List ℕ} {n : ℕ} → length reply.bytes ≤ length out → n ≡ reply.count
          → out' ≡ reply.bytes ++ drop (length reply.bytes) out → work' ≡ replicate (length work) 0
          → Worked reply wanted out out' work work' (Ok n)
      unfolding work_to
      worked_written l e o z =
          let w = with_work reply.check wanted work (sym asked ∙ yes) wide in
          let k = check_passed (with_room reply wanted work) (length out) w l in
          record { replied = replied_written refl w l e o; work_is = z ∙ rw k }

pub ruleset working = (worked_refused, worked_narrow, worked_short, worked_written)

pub worked_length : {reply : Reply} {wanted : ℕ} {out out' work work' : List ℕ} {r : Answer} → Worked reply wanted out out' work work' r → length work' ≡ length work
unfolding work_to
worked_length {reply} {wanted} {out} {work = work} w = ap length w.work_is ∙ go (reply_check (with_room reply wanted work) (length out))
  where
    go : (k : Check) → length (work_for k work) ≡ length work
    go (Ok passed) = length-replicate (length work) 0
    go (Err refusal) = refl

pub worked_code : {reply : Reply} {wanted : ℕ} {out out' work work' : List ℕ} {r : Answer} → Worked reply wanted out out' work work' r → {z : ℤ} → z ≡ code_of r
    → WorkedCode reply wanted out out' work work' z
worked_code w e = record { replied = replied_code w.replied e; work_is = w.work_is }

-- ---- a call that is lent a table too
-- 20 is asked three times, so where it is said first is no matter
last_no : (table work : Bool) → after (after (ask table NoRoom (Ok tt)) (ask work NoRoom (Ok tt))) (Err NoRoom) ≡ Err NoRoom
last_no true true = refl
last_no true false = refl
last_no false work = refl

middle_no : (table : Bool) (later : Check) → after (after (ask table NoRoom (Ok tt)) (Err NoRoom)) later ≡ Err NoRoom
middle_no true later = refl
middle_no false later = refl

module _ {reply : Reply} {bytes : List ℕ} {wanted : ℕ} {out table work : List ℕ} where
  tabled_no : {refusal : Refusal} → reply_check (with_table reply bytes wanted table work) (length out) ≡ Err refusal → Tabled reply bytes wanted out out table table work work (Err refusal)
  unfolding answer_to output_to work_to table_to
  tabled_no e =
      record { worked = record { replied = record { answer_is = rw e; output_is = rw e }; work_is = rw e }; table_is = rw e }

  -- c is what the call's own check returned
  module _ {c : Check} (asked : c ≡ reply.check) where
    pub tabled_refused : {refusal : Refusal} → c ≡ Err refusal → Tabled reply bytes wanted out out table table work work (Err refusal)
    tabled_refused e = tabled_no (check_refused (with_table reply bytes wanted table work) (length out) (rw (sym asked ∙ e)))

    module _ (yes : c ≡ Ok tt) where
      pub tabled_short : length out < length reply.bytes → Tabled reply bytes wanted out out table table work work (Err NoRoom)
      unfolding reply_check
      tabled_short l =
          tabled_no
          (rw (sym asked ∙ yes, q20_no (length reply.bytes) (length out) l) (last_no (question20 (length bytes) (length table)) (question20 wanted (length work))))

      pub tabled_narrow : length table < length bytes → Tabled reply bytes wanted out out table table work work (Err NoRoom)
      unfolding reply_check
      tabled_narrow l = tabled_no (rw (sym asked ∙ yes, q20_no (length bytes) (length table) l))

      pub tabled_idle : length work < wanted → Tabled reply bytes wanted out out table table work work (Err NoRoom)
      unfolding reply_check
      tabled_idle l = tabled_no (rw (sym asked ∙ yes, q20_no wanted (length work) l) (middle_no (question20 (length bytes) (length table)) _))

      pub tabled_written : length reply.bytes ≤ length out → length bytes ≤ length table → wanted ≤ length work → {out' table' work' : List ℕ} {n : ℕ} → n ≡ reply.count
          → out' ≡ reply.bytes ++ drop (length reply.bytes) out → table' ≡ bytes ++ drop (length bytes) table → work' ≡ replicate (length work) 0
          → Tabled reply bytes wanted out out' table table' work work' (Ok n)
      unfolding reply_check answer_to output_to work_to table_to
      tabled_written lo lt lw count out_is table_is zeros =
          let e : reply_check (with_table reply bytes wanted table work) (length out) ≡ Ok tt =
          rw (sym asked ∙ yes, q20_yes (length bytes) (length table) lt, q20_yes wanted (length work) lw, q20_yes (length reply.bytes) (length out) lo) in
          record {
            worked = record { replied = record { answer_is = rw (e, count); output_is = rw e out_is }; work_is = rw e zeros };
            table_is = rw e table_is;
          }

pub ruleset tabling = (tabled_refused, tabled_short, tabled_narrow, tabled_idle, tabled_written)

module _ {reply : Reply} {bytes : List ℕ} {wanted : ℕ} {out out' table table' work work' : List ℕ} {r : Answer} (t : Tabled reply bytes wanted out out' table table' work work' r) where
  pub tabled_length : length table' ≡ length table
  unfolding table_to
  tabled_length = ap length t.table_is ∙ go (reply_check (with_table reply bytes wanted table work) (length out)) refl
    where
      go : (k : Check) → reply_check (with_table reply bytes wanted table work) (length out) ≡ k → length (output_for k bytes table) ≡ length table
      go (Ok passed) e =
          let first = both_passed reply.check _ (both_passed _ _ (passed_check (with_table reply bytes wanted table work) (length out) e).0).0 in
          let l = q20_fits (length bytes) (length table) (asked_yes (question20 (length bytes) (length table)) NoRoom (Ok tt) first.1).0 in
          simp (length-append, length-drop) (omega arith)
      go (Err refusal) e = refl

  pub tabled_code : {z : ℤ} → z ≡ code_of r → TabledCode reply bytes wanted out out' table table' work work' z
  tabled_code e = record { worked = worked_code t.worked e; table_is = t.table_is }
