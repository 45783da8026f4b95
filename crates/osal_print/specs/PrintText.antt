-- The shortest text of an application.
use Rattle.std.specs.Prelude.{◌++◌, List, [], ◌∷◌, ℕ, Option, Some, None, codes, flat_map, map, slice_get}
use Rattle.std.specs.Fmt.{decimal}
use Rattle.osal_line.specs.declared.kind.BodyKind.{BodyKind}
use Rattle.osal_line.specs.declared.kind.BodyKind.TheVariants as kind
use Rattle.osal_script.specs.declared.item.Item.{Item}
use Rattle.osal_script.specs.declared.item.Item.TheVariants as item
use Rattle.osal_script.specs.App.{ScriptBody, Application}
use Rattle.osal_print.specs.Words.{call_words}

-- the words of an item's line; a repeat that is empty is one as any other
abbrev pub item_words : (ℕ → List ℕ) → Item → List (List ℕ)
item_words names (item.Call line) = call_words names line
item_words names (item.Repeat count) = codes "repeat" ∷ decimal count ∷ []
item_words names item.End = codes "end" ∷ []

-- the word with which a body begins
abbrev pub kind_word : BodyKind → List ℕ
kind_word kind.Task = codes "task"
kind_word kind.Handler = codes "handler"

-- the lines of a body, as their words
abbrev pub body_lines : (ℕ → List ℕ) → ScriptBody → List (List (List ℕ))
body_lines names body =
    (kind_word body.kind ∷ body.name ∷ []) ∷ map (item_words names) body.items ++ (codes "end" ∷ []) ∷ []

-- the name of a body that is there
abbrev pub name_found : Option ScriptBody → List ℕ
name_found None = []
name_found (Some body) = body.name

-- the name of the body of that number
abbrev pub body_name : Application → ℕ → List ℕ
body_name app number = name_found (slice_get app.bodies number)

-- the lines of an application, as their words
abbrev pub print_lines : Application → List (List (List ℕ))
print_lines app = (codes "osal-app" ∷ codes "1" ∷ []) ∷ flat_map (body_lines (body_name app)) app.bodies

-- some words, each behind a space
abbrev pub spaced : List (List ℕ) → List ℕ
spaced [] = []
spaced (word ∷ words) = 32 ∷ word ++ spaced words

-- a line of some words, one space between each two
abbrev pub line_text : List (List ℕ) → List ℕ
line_text [] = []
line_text (word ∷ words) = word ++ spaced words

-- a line with its end
abbrev pub ended_line : List (List ℕ) → List ℕ
ended_line words = line_text words ++ 10 ∷ []

-- the text
unfoldable pub print_text : Application → List ℕ
print_text app = flat_map ended_line (print_lines app)
