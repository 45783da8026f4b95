-- What reading an application's file finds.
use Rattle.std.specs.Prelude.{◌≡◌, ◌≤◌, ◌<◌, ◌++◌, Bool, true, false, List, [], ℕ, Option, Some, None, Result, Ok, Err, length}
use Rattle.std.specs.declared.vec.Vec.{Vec}
use Rattle.std.specs.declared.alloc.Global.{Global}
use Rattle.osal_outside.specs.Shelf.{Files, ShelfContent}
use Rattle.osal_script.specs.App.{Application}
use Rattle.osal_run.specs.declared.load.ReadFault.{ReadFault}
use Rattle.osal_run.specs.declared.load.ReadFault.TheVariants as read_fault
use Rattle.osal_run.specs.declared.load.Stop.{Stop}
use Rattle.osal_run.specs.declared.load.Stop.TheVariants as stop
use Rattle.osal_run.specs.Checks.{Check, Refused, Accepted, IsFoundFile, file_limit, check_file, check_request}
use Rattle.osal_run.specs.Request.{Request}

-- what holds of what is told, if anything is
abbrev pub IfTold : {A : Type 0} → Option A → (A → Type 0) → Type 0
IfTold None holds = Unit {0}
IfTold (Some told) holds = holds told

-- a piece of this length was read behind what was there: the front of the rest, and none only at its end
abbrev pub ReadsPiece : ℕ → List ℕ → List ℕ → ShelfContent → ShelfContent → Type 0
ReadsPiece n before after old new =
    (piece : List ℕ) × (after ≡ before ++ piece) × (length piece ≡ n) × (old.rest ≡ piece ++ new.rest)
    × (n ≡ 0 → old.rest ≡ [])

-- the bytes read so far and the rest are what was the rest
abbrev pub HasRead : List ℕ → ShelfContent → ShelfContent → Type 0
HasRead bytes old new = old.rest ≡ bytes ++ new.rest

-- the bytes of a vector that was read
abbrev pub seen_bytes : Result (Vec ℕ Global) ReadFault → Result (List ℕ) ReadFault
seen_bytes (Ok bytes) = Ok bytes.items
seen_bytes (Err fault) = Err fault

-- the source failed at a read
abbrev pub read_fails : {T : Type 0} → Result T ReadFault → Bool
read_fails (Ok read) = false
read_fails (Err read_fault.Larger) = false
read_fails (Err read_fault.Source) = true
read_fails (Err read_fault.Memory) = false

-- a file of these bytes was read whole, or is too large
abbrev pub IsReadAs : Result (List ℕ) ReadFault → List ℕ → Type 0
IsReadAs (Ok read) bytes = (read ≡ bytes) × (length bytes ≤ file_limit)
IsReadAs (Err read_fault.Larger) bytes = file_limit < length bytes
IsReadAs (Err read_fault.Source) bytes = Unit {0}
IsReadAs (Err read_fault.Memory) bytes = Unit {0}

-- the open file was read: it has some bytes, those that the shelf tells where it tells any
pub record ReadsFile (content : Option ShelfContent) (result : Result (List ℕ) ReadFault) : Type 0 where
  pub bytes : List ℕ
  pub told : IfTold content (λ told. told.rest ≡ bytes)
  pub read : IsReadAs result bytes

-- the source failed at the opening or at a read
abbrev pub loading_fails : Result Application Stop → Bool
loading_fails (Ok app) = false
loading_fails (Err (stop.Refused refusal)) = false
loading_fails (Err stop.Source) = true
loading_fails (Err stop.Memory) = false

-- what was loaded is what the checks find; the source fails only at a file that is there
abbrev pub IsFound : Result Application Stop → Check → Type 0
IsFound (Ok app) check = check ≡ Accepted app
IsFound (Err (stop.Refused refusal)) check = check ≡ Refused refusal
IsFound (Err stop.Source) check = IsFoundFile check
IsFound (Err stop.Memory) check = Unit {0}

-- the open file was loaded: it has some bytes, those that the shelf tells where it tells any
pub record LoadsFile (content : Option ShelfContent) (result : Result Application Stop) : Type 0 where
  pub bytes : List ℕ
  pub told : IfTold content (λ told. told.rest ≡ bytes)
  pub found : IsFound result (check_file (Some bytes))

-- the file of a name was loaded: there are some files, those that the shelf tells where it tells any
pub record LoadsName (content : Option ShelfContent) (name : List ℕ) (result : Result Application Stop) : Type 0 where
  pub files : Files
  pub told : IfTold content (λ told. told.files ≡ files)
  pub found : IsFound result (check_file (files name))

-- what is asked for was loaded: there are some files, those that the shelf tells where it tells any
pub record Loads (content : Option ShelfContent) (request : Request) (result : Result Application Stop) : Type 0 where
  pub files : Files
  pub told : IfTold content (λ told. told.files ≡ files)
  pub found : IsFound result (check_request files (Some request))
