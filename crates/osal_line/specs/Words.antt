-- The lines and words of an application's text.
use Rattle.std.specs.Prelude.{◌||◌, ◌&&◌, ◌==◌, List, [], ◌∷◌, ℕ, Bool, nat_le, if◌then◌else◌}
use Rattle.osal_line.specs.declared.words.WordPhase.{WordPhase}
use Rattle.osal_line.specs.declared.words.WordPhase.TheVariants as phase

-- a byte before the first line of a text
abbrev pub onto_line : ℕ → List (List ℕ) → List (List ℕ)
onto_line byte [] = (byte ∷ []) ∷ []
onto_line byte (line ∷ lines) = (byte ∷ line) ∷ lines

-- the lines of a text, each ended by byte 10; the last may lack it
abbrev pub lines_of : List ℕ → List (List ℕ)
lines_of [] = []
lines_of (byte ∷ bytes) = if byte == 10 then [] ∷ lines_of bytes else onto_line byte (lines_of bytes)

-- space, tab and byte 13
abbrev pub is_blank : ℕ → Bool
is_blank byte = byte == 32 || byte == 9 || byte == 13

-- a byte that may stand in a line
abbrev pub is_line_byte : ℕ → Bool
is_line_byte byte = is_blank byte || (nat_le 33 byte && nat_le byte 126)

-- what comes after a word's first byte: a quotation, or a run
abbrev pub phase_after_first : ℕ → WordPhase
phase_after_first byte = if byte == 34 then phase.Quoted else phase.Run

-- what comes after a byte of a quotation
abbrev pub phase_in_quotes : ℕ → WordPhase
phase_in_quotes byte = if byte == 34 then phase.Run else (if byte == 92 then phase.Escaped else phase.Quoted)

-- a byte at the front of the first word
abbrev pub onto_word : ℕ → List (List ℕ) → List (List ℕ)
onto_word byte [] = (byte ∷ []) ∷ []
onto_word byte (word ∷ words) = (byte ∷ word) ∷ words

-- the words of what is left of a line; inside a word, the first is the rest of that word
abbrev pub words_from : WordPhase → List ℕ → List (List ℕ)
words_from phase.Between [] = []
words_from phase.Run [] = [] ∷ []
words_from phase.Quoted [] = [] ∷ []
words_from phase.Escaped [] = [] ∷ []
words_from phase.Between (byte ∷ bytes) =
    if is_blank byte then words_from phase.Between bytes
    else onto_word byte (words_from (phase_after_first byte) bytes)
words_from phase.Run (byte ∷ bytes) =
    if is_blank byte then [] ∷ words_from phase.Between bytes
    else onto_word byte (words_from phase.Run bytes)
words_from phase.Quoted (byte ∷ bytes) = onto_word byte (words_from (phase_in_quotes byte) bytes)
words_from phase.Escaped (byte ∷ bytes) = onto_word byte (words_from phase.Quoted bytes)

-- the words of a line: runs of bytes that are no blanks, where a quotation may hold blanks
abbrev pub words_of : List ℕ → List (List ℕ)
words_of line = words_from phase.Between line
