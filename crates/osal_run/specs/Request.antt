-- What the words of a command line ask for.
use Rattle.std.specs.Prelude.{◌≤◌, ◌==◌, List, [], ◌∷◌, ℕ, Bool, true, false, Option, Some, None, codes, find, drop, take, option_map, if◌then◌else◌}
use Rattle.std.specs.Fmt.{decimal}
use Rattle.std.specs.Str.{bytes_eq}
use Rattle.osal_make.specs.MakeText.{workers}

-- to run a file, and to write its journal behind the report or not; or to run the application that is made for so many
-- workers
pub data Request : Type 0 where
  File : List ℕ → Bool → Request
  Make : ℕ → Request

-- a word that names a file: it is not empty and does not begin with a dash
abbrev pub file_name : List ℕ → Option (List ℕ)
file_name [] = None
file_name (byte ∷ bytes) = if byte == 45 then None else Some (byte ∷ bytes)

-- the number of workers that a word spells: 1 to 60, in decimal digits without a zero in front
abbrev pub worker_count : List ℕ → Option ℕ
worker_count word = find (λ count. bytes_eq word (decimal count)) (workers 60)

-- the word that asks for the journal
abbrev pub is_journal : List ℕ → Bool
is_journal word = bytes_eq word (codes "--journal")

-- the word before a number of workers
abbrev pub is_make : List ℕ → Bool
is_make word = bytes_eq word (codes "--make")

-- how a word begins that has a number of workers in it
abbrev pub has_make : List ℕ → Bool
has_make word = bytes_eq (take 7 word) (codes "--make=")

-- one word: a file, or an application that is made
abbrev pub one_word : List ℕ → Option Request
one_word word =
    if has_make word then option_map (λ count. Make count) (worker_count (drop 7 word))
    else option_map (λ name. File name false) (file_name word)

-- two words: a file with its journal, in either order, or an application that is made
abbrev pub two_words : List ℕ → List ℕ → Option Request
two_words first second =
    if is_journal first then option_map (λ name. File name true) (file_name second)
    else (if is_journal second then option_map (λ name. File name true) (file_name first)
    else (if is_make first then option_map (λ count. Make count) (worker_count second)
    else None))

-- what the words ask for; other words than these ask for nothing
abbrev pub request_of : List (List ℕ) → Option Request
request_of (word ∷ []) = one_word word
request_of (first ∷ second ∷ []) = two_words first second
request_of words = None

-- whether a file is asked for
abbrev pub asks_file : Option Request → Bool
asks_file (Some (File name journal)) = true
asks_file other = false

-- whether the journal is written behind the report
abbrev pub asks_journal : Option Request → Bool
asks_journal (Some (File name journal)) = journal
asks_journal other = false

-- the number of workers of an application to be made is one that it may have
abbrev pub HasWorkers : Request → Type 0
HasWorkers (File name journal) = Unit {0}
HasWorkers (Make count) = (1 ≤ count) × (count ≤ 60)
