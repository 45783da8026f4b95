-- Replies as contracts see them.
use Rattle.std.specs.Prelude.{List, [], ℕ, Bool, true, false, not, pos}
use Rattle.std.specs.Ordering.{int_eq}
use Rattle.osal_base.specs.declared.status.Status.{Status}
use Rattle.osal_base.specs.declared.reply.Answer.{Answer}
use Rattle.osal_base.specs.declared.reply.Answer.TheVariants as answer
use Rattle.osal_base.specs.declared.reply.Ack.{Ack}
use Rattle.osal_base.specs.declared.reply.Reply.{Reply}
use Rattle.osal_base.specs.Status.{number_of}

-- an answer, a number and bytes
pub record Replied : Type 0 where
  pub answer : Answer
  pub number : ℕ
  pub bytes : List ℕ

-- what an acknowledgement and the bytes in the room say
abbrev pub replied : Ack → List ℕ → Replied
replied ack bytes = record { answer = ack.answer; number = ack.number; bytes = bytes }

-- what a whole reply says
abbrev pub reply_of : Reply → Replied
reply_of reply = record { answer = reply.answer; number = reply.number; bytes = reply.bytes.bytes }

-- a refusal by a status: no number and no bytes
abbrev pub refusal : Status → Replied
refusal status = record { answer = answer.Code (number_of status); number = 0; bytes = [] }

-- success, with a number and bytes
abbrev pub gives_bytes : ℕ → List ℕ → Replied
gives_bytes number bytes = record { answer = answer.Code (pos 0); number = number; bytes = bytes }

-- success, with a number
abbrev pub gives : ℕ → Replied
gives number = gives_bytes number []

-- success alone
abbrev pub success : Replied
success = gives 0

-- the task goes on
abbrev pub goes_on : Replied
goes_on = record { answer = answer.Go; number = 0; bytes = [] }

-- the call has to wait
abbrev pub waits : Replied
waits = record { answer = answer.Waits; number = 0; bytes = [] }

-- the task was deleted
abbrev pub deleted : Replied
deleted = record { answer = answer.Deleted; number = 0; bytes = [] }

-- whether an answer says that the call has to wait
abbrev pub is_waits : Answer → Bool
is_waits answer.Waits = true
is_waits (answer.Code code) = false
is_waits answer.Go = false
is_waits answer.Deleted = false

-- whether an answer is success
abbrev pub is_success : Answer → Bool
is_success (answer.Code code) = int_eq code (pos 0)
is_success answer.Waits = false
is_success answer.Go = false
is_success answer.Deleted = false

-- whether an answer is a refusal: a code other than success
abbrev pub is_refusal : Answer → Bool
is_refusal (answer.Code code) = not (int_eq code (pos 0))
is_refusal answer.Waits = false
is_refusal answer.Go = false
is_refusal answer.Deleted = false
