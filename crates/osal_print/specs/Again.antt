-- An application that is read again is the same but for the numbers of its lines.
use Rattle.std.specs.Prelude.{◌≡◌, List, ℕ, Result, Ok, Err, map}
use Rattle.osal_script.specs.declared.item.Item.{Item}
use Rattle.osal_script.specs.declared.item.Item.TheVariants as item
use Rattle.osal_script.specs.App.{ScriptBody, Application}
use Rattle.osal_reading.specs.declared.fault.AppFault.{AppFault}
use Rattle.osal_reading.specs.Reading.{reading_of}

-- an item without the number of its line
abbrev pub unnumbered_item : Item → Item
unnumbered_item (item.Call line) = item.Call (record line { number = 0 })
unnumbered_item (item.Repeat count) = item.Repeat count
unnumbered_item item.End = item.End

-- a body without the numbers of its lines
abbrev pub unnumbered_body : ScriptBody → ScriptBody
unnumbered_body body = record body { items = map unnumbered_item body.items }

-- an application without the numbers of its lines
abbrev pub unnumbered : Application → Application
unnumbered app = record app { bodies = map unnumbered_body app.bodies }

-- a reading is an application, but for the numbers of its lines
abbrev pub IsAgain : Application → Result Application AppFault → Type 0
IsAgain app (Ok again) = unnumbered again ≡ unnumbered app
IsAgain app (Err fault) = ⊥

-- a text spells an application, but for the numbers of its lines
abbrev pub SpellsAgain : List ℕ → Application → Type 0
SpellsAgain text app = IsAgain app (reading_of text)
