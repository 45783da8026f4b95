-- The text of a journal: a line for each entry.
use Rattle.std.specs.Prelude.{◌+◌, ◌++◌, List, [], ◌∷◌, ℕ, codes}
use Rattle.std.specs.Fmt.{decimal, signed_decimal}
use Rattle.osal_base.specs.declared.reply.Answer.{Answer}
use Rattle.osal_base.specs.declared.reply.Answer.TheVariants as answer
use Rattle.osal_base.specs.Reply.{Replied, reply_of}
use Rattle.osal_call.specs.declared.call.Entry.{Entry}
use Rattle.osal_spelling.specs.Spelling.{id_text, quoted}
use Rattle.osal_journal.specs.Spelled.{call_text}

-- an answer: a code is a number here
abbrev pub reply_text : Answer → List ℕ
reply_text (answer.Code code) = signed_decimal code
reply_text answer.Waits = codes "waits"
reply_text answer.Go = codes "go"
reply_text answer.Deleted = codes "deleted"

-- what the machine replied: the answer, the number and the bytes
unfoldable pub replied_text : Replied → List ℕ
replied_text reply =
    codes " => " ++ (reply_text reply.answer ++ (32 ∷ [] ++ (decimal reply.number ++ (32 ∷ [] ++ (quoted reply.bytes ++ 10 ∷ [])))))

-- who called, and when: the position of the entry, the caller, the task and the moment
unfoldable pub caller_text : ℕ → Entry → List ℕ
caller_text position entry =
    decimal position ++ (32 ∷ [] ++ (decimal entry.caller ++ (32 ∷ [] ++ (id_text entry.task ++ (32 ∷ [] ++ (decimal entry.now.ms ++ 32 ∷ []))))))

-- the line of an entry
abbrev pub entry_text : ℕ → Entry → List ℕ
entry_text position entry =
    caller_text position entry ++ (call_text entry.call ++ replied_text (reply_of entry.reply))

-- the lines of some entries, of which the first stands at a position
abbrev pub entries_text : ℕ → List Entry → List ℕ
entries_text position [] = []
entries_text position (entry ∷ entries) = entry_text position entry ++ entries_text (position + 1) entries

-- the text of a journal
abbrev pub journal_text : List Entry → List ℕ
journal_text entries = codes "osal-journal 1\n" ++ entries_text 0 entries
