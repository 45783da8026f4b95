-- What the checks find, by what was loaded.
use Rattle.std.proofs.Common.{◌≡◌, ℕ, List, [], length, Bool, true, false, cond, nat_lt, Option, Some, None, Result, Ok, Err, refl, sym, ap, ◌∙◌, subst, arith}
use Rattle.std.proofs.lemmas.Bool.Decides.{nat_tests}
use Rattle.std.specs.Prelude.{IsSome}
use Rattle.osal_outside.specs.declared.shelf.Opened.TheVariants as opened
use Rattle.osal_outside.specs.Causes.{WhereTold, RoseIf}
use Rattle.osal_outside.specs.Shelf.{Files, ShelfContent, OpenLeaves, AnswersUntold}
use Rattle.osal_reading.specs.declared.fault.AppFault.{AppFault}
use Rattle.osal_reading.specs.Reading.{reading_of}
use Rattle.osal_script.specs.App.{Application}
use Rattle.osal_script.specs.Cost.{cost_of}
use Rattle.osal_run.specs.declared.load.Stop.{Stop}
use Rattle.osal_run.specs.declared.load.Stop.TheVariants as stop
use Rattle.osal_run.specs.declared.load.ReadFault.TheVariants as read_fault
use Rattle.osal_run.specs.declared.refusal.Refusal.TheVariants as refusal
use Rattle.osal_make.specs.MakeText.{make_text}
use Rattle.osal_run.specs.Request.{Make}
use Rattle.osal_run.specs.Checks.{Refused, Accepted, IsFoundFile, file_limit, cost_limit, check_reading, check_file}
use Rattle.osal_run.specs.Loading.{IfTold, IsFound, ReadsFile, LoadsFile, LoadsName, Loads}
use Rattle.osal_run.proofs.Pieces.{rest_of, rest_told}

-- the check of the cost comes after the opening
cost_there : (b : Bool) (app : Application) → IsFoundFile (cond b (Refused refusal.Costly) (Accepted app))
cost_there true app = tt
cost_there false app = tt

-- so does the check of the text
reading_there : (read : Result Application AppFault) → IsFoundFile (check_reading read)
reading_there (Ok app) = cost_there (nat_lt cost_limit (cost_of app)) app
reading_there (Err fault) = tt

-- and the check of the size
size_there : (b : Bool) (read : Result Application AppFault) → IsFoundFile (cond b (Refused refusal.Larger) (check_reading read))
size_there true read = tt
size_there false read = reading_there read

-- a file that is there passes the first two checks
pub file_there : (bytes : List ℕ) → IsFoundFile (check_file (Some bytes))
file_there bytes = size_there (nat_lt file_limit (length bytes)) (reading_of bytes)

-- a file of more bytes than it may have is refused
pub refused_larger : (a : Option ShelfContent) → ReadsFile a (Err read_fault.Larger) → LoadsFile a (Err (stop.Refused refusal.Larger))
refused_larger a r =
    let over : nat_lt file_limit (length r.bytes) ≡ true = grind (arith, nat_tests, r.read) in
    record { bytes = r.bytes; told = r.told; found = rw over refl }

-- a source that failed while the file was read
pub read_failed : (a : Option ShelfContent) → LoadsFile a (Err stop.Source)
read_failed a = record { bytes = rest_of a; told = rest_told a; found = file_there (rest_of a) }

-- want of memory while the file was read
pub read_unfinished : (a : Option ShelfContent) → LoadsFile a (Err stop.Memory)
read_unfinished a = record { bytes = rest_of a; told = rest_told a; found = tt }

-- the check of a file that was read whole is the check of its text
pub by_text : (a : Option ShelfContent) (bytes : List ℕ) (result : Result Application Stop) → ReadsFile a (Ok bytes) → IsFound result (check_reading (reading_of bytes)) → LoadsFile a result
by_text a bytes result r found =
    let within : nat_lt file_limit (length r.bytes) ≡ false = grind (arith, nat_tests, r.read.1) in
    let same : check_file (Some r.bytes) ≡ check_reading (reading_of bytes) = rw within (ap (λ v. check_reading (reading_of v)) (sym r.read.0)) in
    record { bytes = r.bytes; told = r.told; found = subst (IsFound result) (sym same) found }

-- what a shelf tells of its files, or any files
abbrev pub files_of : Option ShelfContent → Files
files_of None = λ name. Some []
files_of (Some told) = told.files

-- they are told, where any are
pub files_told : (a : Option ShelfContent) → IfTold a (λ told. told.files ≡ files_of a)
files_told None = tt
files_told (Some told) = refl

-- want of memory before the file was open
pub unopened : (a : Option ShelfContent) (name : List ℕ) → LoadsName a name (Err stop.Memory)
unopened a name = record { files = files_of a; told = files_told a; found = tt }

-- a name of which the shelf tells that it is not there
pub refused_missing : (a b : Option ShelfContent) (name : List ℕ) → AnswersUntold a (Ok opened.NotFound) → WhereTold a b (OpenLeaves name (Ok opened.NotFound)) → LoadsName a name (Err (stop.Refused refusal.Missing))
refused_missing None b name untold told = absurd (untold refl)
refused_missing (Some x) None name untold told = absurd told
refused_missing (Some x) (Some y) name untold told =
    record { files = x.files; told = refl; found = ap check_file told.1 }

-- a fact that holds of false and not of true
abbrev IsOff : Bool → Type 0
IsOff false = Unit {0}
IsOff true = ⊥

-- some file
some_there : (bytes : Option (List ℕ)) → IsSome bytes → IsFoundFile (check_file bytes)
some_there None some = subst IsOff some tt
some_there (Some bytes) some = file_there bytes

-- a file that is there and was not opened
pub open_failed : (a b : Option ShelfContent) (name : List ℕ) → WhereTold a b (OpenLeaves name (Ok opened.Failed)) → LoadsName a name (Err stop.Source)
open_failed None b name told = record { files = λ asked. Some []; told = tt; found = file_there [] }
open_failed (Some x) None name told = absurd told
open_failed (Some x) (Some y) name told =
    record { files = x.files; told = refl; found = some_there (x.files name) told.1 }

-- what was loaded of the open file was loaded of its name
pub of_open : (a b : Option ShelfContent) (name : List ℕ) (result : Result Application Stop) → WhereTold a b (OpenLeaves name (Ok opened.Ready)) → LoadsFile b result → LoadsName a name result
of_open None None name result told loaded =
    record { files = λ asked. Some loaded.bytes; told = tt; found = loaded.found }
of_open (Some x) (Some y) name result told loaded =
    let has : x.files name ≡ Some loaded.bytes = told.1 ∙ ap Some loaded.told in
    record { files = x.files; told = refl; found = subst (IsFound result) (sym (ap check_file has)) loaded.found }
of_open None (Some y) name result told loaded = absurd told
of_open (Some x) None name result told loaded = absurd told

-- an application that is made is what a request for it asks for, whatever files there are
pub by_making : (a : Option ShelfContent) (count : ℕ) (result : Result Application Stop) → IsFound result (check_reading (reading_of (make_text count))) → Loads a (Make count) result
by_making a count result found = record { files = files_of a; told = files_told a; found = found }

-- the count after calls that did not fail, and then others
pub rose_since : (failed : Bool) (before between now : ℕ) → between ≡ before → RoseIf failed between now → RoseIf failed before now
rose_since failed before between now still then = subst (λ v. RoseIf failed v now) still then
