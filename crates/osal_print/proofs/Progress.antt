-- How far a text and its printed text are read: what is printed of what was read, and how its reading mirrors the other.
use Rattle.std.proofs.Common.{◌≡◌, ◌≤◌, ◌++◌, ℕ, List, [], ◌∷◌, Option, Some, None, Result, Ok, length, map, flat_map, codes}
use Rattle.std.specs.List.{AllByRecursion}
use Rattle.osal_line.specs.declared.kind.BodyKind.{BodyKind}
use Rattle.osal_line.specs.Declarations.{declared_by}
use Rattle.osal_script.specs.declared.item.Item.{Item}
use Rattle.osal_script.specs.App.{ScriptBody}
use Rattle.osal_reading.specs.declared.fault.FaultKind.{FaultKind}
use Rattle.osal_reading.specs.Draft.{OpenBody, Reading}
use Rattle.osal_reading.specs.Reading.{read_words}
use Rattle.osal_print.specs.Again.{unnumbered_item, unnumbered_body}
use Rattle.osal_print.specs.PrintText.{item_words, kind_word, body_lines, line_text}
use Rattle.osal_print.proofs.IsWord.{Stands}
use Rattle.osal_print.proofs.Mirrored.{mirrored}
use Rattle.osal_print.proofs.LineKinds.{behind}

-- what is printed of a body that is open
abbrev pub open_lines : (ℕ → List ℕ) → Option OpenBody → List (List (List ℕ))
open_lines names None = []
open_lines names (Some body) = (kind_word body.kind ∷ body.name ∷ []) ∷ map (item_words names) body.items

-- what is printed of what was read behind the header
abbrev pub so_far : (ℕ → List ℕ) → List ScriptBody → Option OpenBody → List (List (List ℕ))
so_far names bodies current = (codes "osal-app" ∷ codes "1" ∷ []) ∷ flat_map (body_lines names) bodies ++ open_lines names current

-- a body that is open in the printed text, with these items
abbrev pub mirrored_body : OpenBody → List Item → OpenBody
mirrored_body body items = record body { items = items; registers = mirrored body.registers }

-- the same of one that is maybe open
abbrev pub mirrored_open : Option OpenBody → List Item → Option OpenBody
mirrored_open None items = None
mirrored_open (Some body) items = Some (mirrored_body body items)

-- the items of a body that is open
abbrev pub open_items : Option OpenBody → List Item
open_items None = []
open_items (Some body) = body.items

-- the registers of a body that is open are few
abbrev pub HasFew : Option OpenBody → Type 0
HasFew None = Unit {0}
HasFew (Some body) = length body.registers.names ≤ 32

-- the bodies and the open items of the printed text are those of the other, but for the numbers of lines
pub record Match (bodies : List ScriptBody) (current : Option OpenBody) (printed : List ScriptBody) (items : List Item) : Type 0 where
  pub bodies_same : map unnumbered_body printed ≡ map unnumbered_body bodies
  pub items_same : map unnumbered_item items ≡ map unnumbered_item (open_items current)

-- the printed text is read to where the other is
pub record ReadsTo (bodies : List ScriptBody) (current : Option OpenBody) (read : Result Reading FaultKind) : Type 0 where
  pub printed : List ScriptBody
  pub items : List Item
  pub match_after : Match bodies current printed items
  pub is : read ≡ Ok (behind printed (mirrored_open current items))

-- a printed line says what a line said that led from one place of the text to another
pub record Prints (later : BodyKind → List ℕ → Option ℕ) (names : ℕ → List ℕ) (bodies : List ScriptBody) (current : Option OpenBody) (words : List (List ℕ)) (bodies_after : List ScriptBody) (open_after : Option OpenBody) (printed : List (List ℕ)) : Type 0 where
  pub more : so_far names bodies_after open_after ≡ so_far names bodies current ++ printed ∷ []
  pub stand : AllByRecursion Stands printed
  pub shorter : length (line_text printed) ≤ length (line_text words)
  pub declares : declared_by printed ≡ declared_by words
  pub few : HasFew open_after
  pub reads : (number : ℕ) (others : List ScriptBody) (items : List Item) → Match bodies current others items → ReadsTo bodies_after open_after (read_words later (behind others (mirrored_open current items)) number printed)
