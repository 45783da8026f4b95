-- How far a text is read.
use Rattle.std.specs.Prelude.{◌+◌, List, [], ℕ, Bool, false, Option, Some, None, length}
use Rattle.osal_line.specs.declared.kind.BodyKind.{BodyKind}
use Rattle.osal_line.specs.Registers.{Registers}
use Rattle.osal_script.specs.declared.item.Item.{Item}
use Rattle.osal_script.specs.App.{ScriptBody}

-- a body whose end is still to come: what runs it, its items, how many call lines and repeats they are, and how many
-- repeats are open
pub record OpenBody : Type 0 where
  pub name : List ℕ
  pub kind : BodyKind
  pub items : List Item
  pub count : ℕ
  pub repeats : ℕ
  pub registers : Registers

-- whether the header was there, the bodies that are done, and the one that is open
pub record Reading : Type 0 where
  pub header : Bool
  pub bodies : List ScriptBody
  pub open_body : Option OpenBody

-- nothing is read
abbrev pub unread : Reading
unread = record { header = false; bodies = []; open_body = None }

-- one body, where it is there
abbrev pub one_of : Option OpenBody → ℕ
one_of None = 0
one_of (Some body) = 1

-- how many bodies have begun
abbrev pub begun : Reading → ℕ
begun reading = length reading.bodies + one_of reading.open_body
