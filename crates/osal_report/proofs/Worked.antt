-- Texts that were worked out by hand: the definitions give them.
use Rattle.std.proofs.Common.{◌≡◌, [], ◌∷◌, refl}
use Rattle.std.specs.Prelude.{codes, negsuc}
use Rattle.std.specs.Fmt.{digits}
use Rattle.osal_spelling.specs.Spelling.{id_text, code_text, quoted}
use Rattle.osal_report.specs.Report.{stall_line, segment_name, counts_text, end_text}

-- an identifier has eight digits in lower case
pub id_of_main : id_text 65537 ≡ codes "0x00010001"
unfolding id_text
id_of_main = refl

-- letters are in lower case
pub id_of_letters : id_text 703710 ≡ codes "0x000abcde"
unfolding id_text
id_of_letters = refl

-- a code of the table is spelled by its name
pub code_of_timeout : code_text (negsuc 6) ≡ codes "OS_SEM_TIMEOUT"
unfolding code_text
code_of_timeout = refl

-- quotation marks and backslashes follow a backslash, and other bytes are hexadecimal
pub quoted_bytes : quoted (97 ∷ 34 ∷ 92 ∷ 0 ∷ 255 ∷ []) ≡ codes "\"a\\\"\\\\\\x00\\xff\""
unfolding quoted
quoted_bytes = refl

-- the line that waits stands before the last line of its segment
pub line_that_waits : stall_line 6 (codes "bin_sem_take") ≡ codes "[STALL] line 6 bin_sem_take\n"
unfolding stall_line digits
line_that_waits = refl

-- the last line of a segment tells how its task ended, and counts
pub last_line : end_text 65538 (codes "w") (codes " STALLED") 10 0 ≡ codes "[  END] 0x00010002 w STALLED PASS 10 FAIL 0\n"
unfolding end_text segment_name counts_text id_text digits
last_line = refl
