-- What stands before a run: the checks, in their order, and the text of each refusal.
use Rattle.std.specs.Prelude.{◌≡◌, ◌++◌, List, ℕ, true, Option, Some, None, Result, Ok, Err, codes, length, nat_lt, if◌then◌else◌}
use Rattle.std.specs.Fmt.{decimal}
use Rattle.osal_outside.specs.Shelf.{Files}
use Rattle.osal_reading.specs.declared.fault.AppFault.{AppFault}
use Rattle.osal_run.specs.declared.refusal.Refusal.{Refusal}
use Rattle.osal_run.specs.declared.refusal.Refusal.TheVariants as refusal
use Rattle.osal_script.specs.App.{Application}
use Rattle.osal_script.specs.Cost.{cost_of}
use Rattle.osal_reading.specs.Fault.{kind_text}
use Rattle.osal_reading.specs.Reading.{reading_of}
use Rattle.osal_make.specs.MakeText.{make_text}
use Rattle.osal_run.specs.Request.{Request, File, Make, request_of, asks_file}

-- the most bytes of an application's file
abbrev pub file_limit : ℕ
file_limit = 1048576

-- what the checks find: the first refusal, or an application
pub data Check : Type 0 where
  Refused : Refusal → Check
  Accepted : Application → Check

-- the most that an application may cost
abbrev pub cost_limit : ℕ
cost_limit = 300000

-- the check of what an application costs
abbrev pub check_cost : Application → Check
check_cost app = if nat_lt cost_limit (cost_of app) then Refused refusal.Costly else Accepted app

-- the check of a text
abbrev pub check_reading : Result Application AppFault → Check
check_reading (Ok app) = check_cost app
check_reading (Err fault) = Refused (refusal.Unread fault)

-- the check of a file that is there, or is not
abbrev pub check_file : Option (List ℕ) → Check
check_file None = Refused refusal.Missing
check_file (Some bytes) = if nat_lt file_limit (length bytes) then Refused refusal.Larger else check_reading (reading_of bytes)

-- the check of what is asked for: the application that is made is the one that its text spells
abbrev pub check_request : Files → Option Request → Check
check_request files None = Refused refusal.Usage
check_request files (Some (File name journal)) = check_file (files name)
check_request files (Some (Make count)) = check_reading (reading_of (make_text count))

-- the first check that refuses, or the application
abbrev pub check_of : Files → List (List ℕ) → Check
check_of files words = check_request files (request_of words)

-- a file was found: the check that it is there does not refuse
abbrev pub IsFoundFile : Check → Type 0
IsFoundFile (Refused refusal.Missing) = ⊥
IsFoundFile other = Unit {0}

-- the words name a file that is there
pub record IsThere (words : List (List ℕ)) (check : Check) : Type 0 where
  pub asked : asks_file (request_of words) ≡ true
  pub found : IsFoundFile check

-- the text of a refused file: the first bad line, and the rule that it breaks
abbrev pub fault_text : AppFault → List ℕ
fault_text fault =
    codes "osal-run: line " ++ (decimal fault.line ++ (codes ": " ++ (kind_text fault.kind ++ codes "\n")))

-- the text of a refusal
unfoldable pub refusal_text : Refusal → List ℕ
refusal_text refusal.Usage = codes "usage: osal-run FILE | --journal FILE | --make N\n"
refusal_text refusal.Missing = codes "osal-run: no such file\n"
refusal_text refusal.Larger = codes "osal-run: file is larger than 1048576 bytes\n"
refusal_text (refusal.Unread fault) = fault_text fault
refusal_text refusal.Costly = codes "osal-run: application costs more than 300000\n"
