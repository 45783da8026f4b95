-- An application: what a contract sees of it.
use Rattle.std.specs.Prelude.{◌+◌, ◌++◌, List, [], ◌∷◌, ℕ, zero, suc, length}
use Rattle.std.specs.List.{AllByRecursion}
use Rattle.osal_line.specs.declared.kind.BodyKind.{BodyKind}
use Rattle.osal_line.specs.declared.kind.BodyKind.TheVariants as kind
use Rattle.osal_line.specs.declared.line.Line.{Line}
use Rattle.osal_line.specs.Bare.{IsBare}
use Rattle.osal_line.specs.Between.{NamesBetween}
use Rattle.osal_script.specs.declared.item.Item.{Item}
use Rattle.osal_script.specs.declared.item.Item.TheVariants as item

-- a body: its name, its kind, and its items in the order of their lines
pub record ScriptBody : Type 0 where
  pub name : List ℕ
  pub kind : BodyKind
  pub items : List Item

-- the bodies in order, numbered from 0
pub record Application : Type 0 where
  pub version : ℕ
  pub bodies : List ScriptBody

-- so many times a list
abbrev pub times : {A : Type 0} → ℕ → List A → List A
times zero list = []
times (suc n) list = list ++ times n list

-- the first of some lists
abbrev pub first_of_levels : {A : Type 0} → List (List A) → List A
first_of_levels [] = []
first_of_levels (level ∷ levels) = level

-- a line before the others of its level
abbrev pub onto_level : Line → List (List Line) → List (List Line)
onto_level line [] = (line ∷ []) ∷ []
onto_level line (level ∷ levels) = (line ∷ level) ∷ levels

-- a repeat of the first level, before what follows its end
abbrev pub repeated : ℕ → List (List Line) → List (List Line)
repeated count [] = []
repeated count (level ∷ []) = times count level ∷ []
repeated count (level ∷ around ∷ levels) = (times count level ++ around) ∷ levels

-- the call lines of some items with every repeat written out, level by level: those up to the end of the level
-- that is open, then those of the level around it
abbrev pub levels_of : List Item → List (List Line)
levels_of [] = [] ∷ []
levels_of (item.Call line ∷ items) = onto_level line (levels_of items)
levels_of (item.Repeat count ∷ items) = repeated count (levels_of items)
levels_of (item.End ∷ items) = [] ∷ levels_of items

-- the call lines of a body, with every repeat written out
abbrev pub lines_of : ScriptBody → List Line
lines_of body = first_of_levels (levels_of body.items)

-- the same of each line among some items
abbrev pub ItemNames : ℕ → ℕ → Item → Type 0
ItemNames number count (item.Call line) = NamesBetween number count line.call
ItemNames number count (item.Repeat times) = Unit {0}
ItemNames number count item.End = Unit {0}

-- each body names later ones alone, where the first of them has this number
abbrev pub NamesLaterFrom : ℕ → ℕ → List ScriptBody → Type 0
NamesLaterFrom number count [] = Unit {0}
NamesLaterFrom number count (body ∷ bodies) =
    AllByRecursion (ItemNames number count) body.items × NamesLaterFrom (number + 1) count bodies

-- each body of an application names later ones alone
abbrev pub NamesLater : Application → Type 0
NamesLater app = NamesLaterFrom 0 (length app.bodies) app.bodies

-- the same of each line among some items
abbrev pub ItemIsBare : Item → Type 0
ItemIsBare (item.Call line) = IsBare line.call
ItemIsBare (item.Repeat count) = Unit {0}
ItemIsBare item.End = Unit {0}

-- a handler neither creates tasks nor ticks
abbrev pub HandlerIsBare : BodyKind → List Item → Type 0
HandlerIsBare kind.Handler items = AllByRecursion ItemIsBare items
HandlerIsBare kind.Task items = Unit {0}

-- no handler of an application creates tasks or ticks
abbrev pub HandlersAreBare : Application → Type 0
HandlersAreBare app = AllByRecursion (λ (body : ScriptBody). HandlerIsBare body.kind body.items) app.bodies
