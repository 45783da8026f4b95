-- The bodies that the lines of a text declare, and their numbers.
use Rattle.std.specs.Prelude.{◌+◌, ◌++◌, ◌&&◌, List, [], ◌∷◌, ℕ, Bool, true, false, Option, Some, None, codes, option_map, option_to_list, if◌then◌else◌}
use Rattle.std.specs.Str.{bytes_eq}
use Rattle.osal_line.specs.declared.kind.BodyKind.{BodyKind}
use Rattle.osal_line.specs.declared.kind.BodyKind.TheVariants as kind
use Rattle.osal_line.specs.Words.{words_of}

-- a body that a line declares: what runs it, and its name
pub record Declared : Type 0 where
  pub kind : BodyKind
  pub name : List ℕ

-- what kind of body a word declares
abbrev pub kind_of : List ℕ → Option BodyKind
kind_of word =
    if bytes_eq word (codes "task") then Some kind.Task
    else (if bytes_eq word (codes "handler") then Some kind.Handler else None)

-- the body that a line's words declare: they are `task` or `handler` and its name, be the line good or bad
abbrev pub declared_by : List (List ℕ) → Option Declared
declared_by (word ∷ name ∷ []) = option_map (λ kind. record { kind = kind; name = name }) (kind_of word)
declared_by words = None

-- the bodies that some lines declare, in order
abbrev pub declared : List (List ℕ) → List Declared
declared [] = []
declared (line ∷ lines) = option_to_list (declared_by (words_of line)) ++ declared lines

-- whether two kinds of bodies are one
abbrev pub is_kind : BodyKind → BodyKind → Bool
is_kind kind.Task kind.Task = true
is_kind kind.Handler kind.Handler = true
is_kind one other = false

-- one place further, or the first place where a body stands there
abbrev pub one_further : Bool → Option ℕ → Option ℕ
one_further here (Some place) = Some (place + 1)
one_further here None = if here then Some 0 else None

-- the last place of a body of a kind and a name in a list
abbrev pub last_place : List Declared → BodyKind → List ℕ → Option ℕ
last_place [] kind name = None
last_place (other ∷ others) kind name =
    one_further (is_kind other.kind kind && bytes_eq other.name name) (last_place others kind name)

-- the number of the body of a kind and a name that later lines declare: each of them begins a body, behind those that
-- have begun; a text that declares a name twice is refused at the second, so it does not matter that the last counts
abbrev pub later_number : ℕ → List Declared → BodyKind → List ℕ → Option ℕ
later_number begun bodies kind name = option_map (λ place. begun + place) (last_place bodies kind name)
