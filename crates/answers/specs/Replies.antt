-- What every call that writes promises. A call defines its `Reply`, that is its questions and its entries, and the rest is said here once.
use Rattle.std.specs.Prelude.{ℕ, ◌<◌, ◌^◌, ◌≡◌, List, ◌++◌, ℤ, pos, neg_ℤ, length, drop, replicate, Result, Ok, Err}
use Rattle.words.specs.Bytes.{joined}
use Rattle.answers.specs.declared.Refusal.{Refusal}
use Rattle.answers.specs.declared.Refusal.TheVariants.{NoRoom}
use Rattle.answers.specs.Checks.{Check, ask, after}
use Rattle.answers.specs.Questions.{number_of, question20}

-- the question that was not passed, or how many entries were written
abbrev pub Answer : Type 0
Answer = Result ℕ Refusal

-- what a call asks before 20, how many entries it answers, and their bytes
pub record Reply : Type 0 where
  pub check : Check
  pub count : ℕ
  pub bytes : List ℕ

-- the entries of a list, each as its bytes
abbrev pub reply_of : {A : Type 0} → Check → (A → List ℕ) → List A → Reply
reply_of check bytes_of entries = record { check = check; count = length entries; bytes = joined bytes_of entries }

-- 20, asked of this very answer, comes last
unfoldable pub reply_check : Reply → ℕ → Check
reply_check reply room = after reply.check (ask (question20 (length reply.bytes) room) NoRoom (Ok tt))

-- the answer of a call that passed, or was refused
abbrev pub answer_for : Check → ℕ → Answer
answer_for (Ok passed) count = Ok count
answer_for (Err refusal) count = Err refusal

-- a refusal alters nothing, and output past the answer is untouched
abbrev pub output_for : Check → List ℕ → List ℕ → List ℕ
output_for (Ok passed) bytes out = bytes ++ drop (length bytes) out
output_for (Err refusal) bytes out = out

unfoldable pub answer_to : Reply → List ℕ → Answer
answer_to reply out = answer_for (reply_check reply (length out)) reply.count

unfoldable pub output_to : Reply → List ℕ → List ℕ
output_to reply out = output_for (reply_check reply (length out)) reply.bytes out

-- the call was lent `out`, left `out'` there, and answered so
pub record Replied (reply : Reply) (out out' : List ℕ) (answer : Answer) : Type 0 where
  pub answer_is : answer ≡ answer_to reply out
  pub output_is : out' ≡ output_to reply out

-- ---- a call that is lent work as well
-- 20 asks for so many bytes of what else is lent
abbrev pub with_room : Reply → ℕ → List ℕ → Reply
with_room reply wanted lent =
    record { check = after reply.check (ask (question20 wanted (length lent)) NoRoom (Ok tt)); count = reply.count; bytes = reply.bytes }

-- work is all zeros after an answer, the whole of it
abbrev pub work_for : Check → List ℕ → List ℕ
work_for (Ok passed) work = replicate (length work) 0
work_for (Err refusal) work = work

unfoldable pub work_to : Reply → List ℕ → List ℕ → List ℕ
work_to reply out work = work_for (reply_check reply (length out)) work

pub record Worked (reply : Reply) (wanted : ℕ) (out out' work work' : List ℕ) (answer : Answer) : Type 0 where
  pub replied : Replied (with_room reply wanted work) out out' answer
  pub work_is : work' ≡ work_to (with_room reply wanted work) out work

-- ---- a call that is lent a table too, for bytes beside its entries
-- 20 asks of both, so with the output of three
abbrev pub with_table : Reply → List ℕ → ℕ → List ℕ → List ℕ → Reply
with_table reply bytes wanted table work = with_room (with_room reply (length bytes) table) wanted work

-- as with the output, a refusal alters nothing, and the table past these bytes is untouched
unfoldable pub table_to : Reply → List ℕ → List ℕ → List ℕ → List ℕ
table_to reply bytes out table = output_for (reply_check reply (length out)) bytes table

pub record Tabled (reply : Reply) (bytes : List ℕ) (wanted : ℕ) (out out' table table' work work' : List ℕ) (answer : Answer) : Type 0 where
  pub worked : Worked (with_room reply (length bytes) table) wanted out out' work work' answer
  pub table_is : table' ≡ table_to (with_table reply bytes wanted table work) bytes out table

-- ---- over C
-- the count, or minus the question's number
abbrev pub code_of : Answer → ℤ
code_of (Ok count) = pos count
code_of (Err refusal) = neg_ℤ (pos (number_of refusal))

-- a count that fits an i64
abbrev pub AnswerFits : Answer → Type 0
AnswerFits (Ok count) = count < 2 ^ 63
AnswerFits (Err refusal) = Unit {0}

pub record RepliedCode (reply : Reply) (out out' : List ℕ) (code : ℤ) : Type 0 where
  pub code_is : code ≡ code_of (answer_to reply out)
  pub output_is : out' ≡ output_to reply out

pub record WorkedCode (reply : Reply) (wanted : ℕ) (out out' work work' : List ℕ) (code : ℤ) : Type 0 where
  pub replied : RepliedCode (with_room reply wanted work) out out' code
  pub work_is : work' ≡ work_to (with_room reply wanted work) out work

pub record TabledCode (reply : Reply) (bytes : List ℕ) (wanted : ℕ) (out out' table table' work work' : List ℕ) (code : ℤ) : Type 0 where
  pub worked : WorkedCode (with_room reply (length bytes) table) wanted out out' work work' code
  pub table_is : table' ≡ table_to (with_table reply bytes wanted table work) bytes out table
