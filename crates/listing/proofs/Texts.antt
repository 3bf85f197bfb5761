-- The text of a run, of an input, and in the output.
use Prim.Native.Nat.{ℕ, ◌+◌, ◌-◌, ◌*◌, ◌≤◌, ◌<◌}
use native.Mathlib.Omega.{arith}
use mathlib.Core.Path.{◌≡◌, refl, sym, ap}
use mathlib.Core.Bool.{Bool, true, not}
use mathlib.Core.List.{List, [], append-nil}
use lib.ListN.{length, take, drop, length-drop}
use lib.Seq.{length-take-le, take_at, take_all}
use Rattle.words.specs.Bytes.{u32_at, splice, Put}
use Rattle.words.proofs.Splice.{length_splice}
use Rattle.words.proofs.TableRows.{length_rows}
use Rattle.answers.specs.Replies.{Replied, Answer}
use Rattle.answers.proofs.Asking.{said_no, said_yes}
use Rattle.answers.proofs.Replying.{wrote_check, wrote_count, wrote_bytes, refused_check, replied_length, replied_short, replied_written}
use Rattle.answers.specs.declared.Refusal.{Refusal}
use Rattle.answers.specs.declared.Refusal.TheVariants.{NoRoom, WrongInput}
use Rattle.answers.specs.Questions.{number_of}
use Rattle.std.specs.Prelude.{Ok, Err}
use Rattle.records.specs.Record.{record_size, record_at, records_in, records_bytes}
use Rattle.records.proofs.ReadBack.{records_length, records_written}
use Rattle.lines.specs.Lines.{end_line, refused_line}
use Rattle.lines.specs.Input.{question21}
use Rattle.words.proofs.Copying.{put_put}
use Rattle.lines.proofs.Question21.{input_small}
use Rattle.ship.specs.Decode.{decode}
use Rattle.seat_run.specs.Run.{run_records, run_reply}
use Rattle.seat_run.proofs.RunRecords.{run_length, reply_long}
use Rattle.listing.specs.Listing.{seats_in, seat_lines, placed_in, unplaced_in, run_text, list_text, seatlist_text, text_reply}
use Rattle.listing.specs.Sizes.{most_seats, seats_size, records_size, text_size, record_count, records_of, Written}
use Rattle.listing.proofs.Records.{all_counted}

-- ---- text at the start
pub prefix_long : (n : ℕ) (l : List ℕ) → n ≤ length l → n ≡ length (take n l)
prefix_long n l h = sym (length-take-le n l h)

module _ {s t xs : List ℕ} {at n : ℕ} (p : Put s at xs t n) where
  put_fits : n ≤ length s → n ≤ length t
  put_fits h =
      let fits : at + length xs ≤ length s = omega (arith, p.next_is) in
      omega (arith, ap length p.out_is, length_splice s at xs fits)

-- one line, at the start
pub line_fits : {s t xs : List ℕ} {n : ℕ} → Put s 0 xs t n → n ≤ 0 + 128 → text_size ≤ length s → n ≤ length t
line_fits p h room = put_fits p (omega arith)

front : {s t xs : List ℕ} {n : ℕ} → Put s 0 xs t n → take n t ≡ xs
unfolding splice
front {s} {t} {xs} {n} p = rw p.out_is (take_at xs _ n (omega (arith, p.next_is)))

-- ---- put_records
pub records_put : (records : List ℕ) {s t u : List ℕ} {count n m placed : ℕ} → count ≤ most_seats → text_size ≤ length s
    → Put s 0 (seat_lines 0 (records_in records count)) t n → n ≤ 128 * count
    → placed ≡ placed_in (records_in records count)
    → Put t n (end_line placed (count - placed)) u m → m ≤ n + 128
    → Written s (run_text (Ok tt) (records_in records count)) u m
records_put records {s} {t} {u} {count} {n} {m} {placed} few room p h e q l =
    let rs = records_in records count in
    let left : unplaced_in rs ≡ count - placed = omega (arith, all_counted rs, length_rows (record_at records) count 0, e) in
    let end : Put t n (end_line (placed_in rs) (unplaced_in rs)) u m = rw (left, ← e) q in
    let w = put_put p (omega arith) end in
    (w, put_fits w (omega arith))

-- ---- put_run
module _ (file blocked seats : List ℕ) where
  module _ {out out' : List ℕ} {r : Answer} (replied : Replied (run_reply file blocked seats) out out' r) (few : length seats ≤ seats_size) where
    pub ran_few : {count : ℕ} → r ≡ Ok count → count ≤ most_seats
    ran_few w = omega (arith, wrote_count replied w, run_length (decode file) blocked seats)

    pub ran_room : {count : ℕ} → r ≡ Ok count → record_size * count ≤ length out'
    ran_room w = omega (arith, wrote_count replied w, (wrote_check replied w).1, records_length (run_records file blocked seats), replied_length replied)

    -- the bytes that were written are the records
    ran_bytes : {count : ℕ} → r ≡ Ok count → take (record_size * count) out' ≡ records_bytes (run_records file blocked seats)
    ran_bytes {count} w =
        let rs = run_records file blocked seats in
        let rest = drop (length (records_bytes rs)) out in
        rw (wrote_bytes replied w) (take_at (records_bytes rs) rest (record_size * count) (omega (arith, wrote_count replied w, records_length rs)))

    pub ran_count : {count : ℕ} → r ≡ Ok count → record_count (take (record_size * count) out') ≤ most_seats
    ran_count w = omega (arith, length-take-le _ out' (ran_room w), ran_few w)

    pub ran_wrote : {count n : ℕ} {s t : List ℕ} → r ≡ Ok count → Written s (run_text (Ok tt) (records_of (take (record_size * count) out'))) t n
        → Written s (list_text file blocked seats) t n
    unfolding list_text
    ran_wrote {count} {n} {s} {t} w p =
        let rs = run_records file blocked seats in
        let k : record_count (records_bytes rs) ≡ length rs = omega (arith, records_length rs) in
        let e : records_of (take (record_size * count) out') ≡ rs = rw (ran_bytes w, k) (rw append-nil at (records_written rs [])) in
        rw (wrote_check replied w).0 (rw e at p)

    pub ran_refused : {refusal : Refusal} {number n : ℕ} {s t : List ℕ} → r ≡ Err refusal → number ≡ number_of refusal → records_size ≤ length out → Put s 0 (refused_line number) t n
        → Put s 0 (list_text file blocked seats) t n
    unfolding list_text
    ran_refused e numbered room p =
        rw (refused_check replied e (omega (arith, reply_long file blocked seats))) (rw numbered at p)

-- ---- put_text
module _ (input : List ℕ) where
  pub input_refused : {b : Bool} {number n : ℕ} {s t : List ℕ} → b ≡ question21 input → not b ≡ true → number ≡ number_of WrongInput → Put s 0 (refused_line number) t n
      → Put s 0 (seatlist_text input) t n
  unfolding seatlist_text
  input_refused e h numbered p = rw (said_no e h) (rw numbered at p)

  module _ {end : ℕ} (yes : question21 input ≡ true) (e : end ≡ 4 + u32_at input 0) where
    seats_are : take (length input - (end + 32)) (drop (end + 32) input) ≡ seats_in input
    seats_are = let n = 4 + u32_at input 0 + 32 in rw e (take_all (length input - n) (drop n input) (simp length-drop (omega arith)))

    pub seats_few : length (take (length input - (end + 32)) (drop (end + 32) input)) ≤ seats_size
    seats_few = rw (seats_are, length-drop) (omega (arith, input_small input yes))

    pub input_listed : {s t : List ℕ} {n : ℕ}
        → Written s (list_text (take (end - 4) (drop 4 input)) (take (end + 32 - end) (drop end input)) (take (length input - (end + 32)) (drop (end + 32) input))) t n
        → Written s (seatlist_text input) t n
    unfolding seatlist_text
    input_listed p =
        let a : end - 4 ≡ u32_at input 0 = omega arith in
        let b : end + 32 - end ≡ 32 = omega arith in
        rw yes (rw (seats_are, a, b, e) at p)

-- ---- seatlist_text
module _ (input : List ℕ) {s t : List ℕ} {n : ℕ} (p : Written s (seatlist_text input) t n) where
  pub text_short : {out : List ℕ} → length out < n → Replied (text_reply input) out out (Err NoRoom)
  text_short h = replied_short refl refl (omega (arith, p.0.next_is))

  pub text_room : {room : ℕ} → n ≤ room → 0 + length (take n t) ≤ room
  text_room h = omega (arith, prefix_long n t p.1)

  pub text_copied : {out out' : List ℕ} {m : ℕ} → n ≤ length out → Put out 0 (take n t) out' m → Replied (text_reply input) out out' (Ok n)
  unfolding splice
  text_copied {out} h q =
      let w = rw (front p.0) at q in
      let z : 0 + length (seatlist_text input) ≡ length (seatlist_text input) = omega arith in
      replied_written refl refl (omega (arith, p.0.next_is)) (omega (arith, p.0.next_is)) (rw z at w.out_is)

pub ruleset texts = (
  line_fits,
  records_put,
  ran_few,
  ran_room,
  ran_count,
  ran_wrote,
  ran_refused,
  said_yes,
  input_refused,
  seats_few,
  input_listed,
  text_short,
  prefix_long,
  text_room,
  text_copied,
)
