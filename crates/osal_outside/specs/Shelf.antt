-- A shelf of files: what it means, and what its calls leave.
use Rattle.std.specs.Prelude.{◌≡◌, ◌≢◌, ◌↔◌, Bool, true, false, List, [], ◌++◌, ℕ, take, Option, Some, None, IsSome, Result, Ok, Err}
use Rattle.osal_outside.specs.declared.shelf.Opened.{Opened}
use Rattle.osal_outside.specs.declared.shelf.Opened.TheVariants as opened
use Rattle.osal_outside.specs.declared.shelf.ReadFailed.{ReadFailed}
use Rattle.osal_base.specs.declared.reply.OutOfMemory.{OutOfMemory}
use Rattle.osal_outside.specs.Causes.{RoseIf}

-- a finite map from names to bytes, by its look-up
abbrev pub Files : Type 0
Files = List ℕ → Option (List ℕ)

-- the files, and what is left of the open one: nothing where none is open
pub record ShelfContent : Type 0 where
  pub files : Files
  pub rest : List ℕ

-- what an open leaves of what a shelf tells
abbrev pub OpenLeaves : List ℕ → Result Opened OutOfMemory → ShelfContent → ShelfContent → Type 0
OpenLeaves name (Ok opened.Ready) old new = (new.files ≡ old.files) × (old.files name ≡ Some new.rest)
OpenLeaves name (Ok opened.NotFound) old new =
    (new.files ≡ old.files) × (old.files name ≡ None) × (new.rest ≡ [])
OpenLeaves name (Ok opened.Failed) old new =
    (new.files ≡ old.files) × IsSome (old.files name) × (new.rest ≡ [])
OpenLeaves name (Err memory) old new = new ≡ old

-- only a shelf that tells its files answers that one is not there
abbrev pub AnswersUntold : Option ShelfContent → Result Opened OutOfMemory → Type 0
AnswersUntold None result = result ≢ Ok opened.NotFound
AnswersUntold (Some told) result = Unit {0}

-- the open failed by a fault of the outside: want of memory is none
abbrev pub is_fault : Result Opened OutOfMemory → Bool
is_fault (Ok opened.Failed) = true
is_fault (Ok opened.Ready) = false
is_fault (Ok opened.NotFound) = false
is_fault (Err memory) = false

-- the count rose if the open failed, and else it stayed
abbrev pub HasOpenCause : ℕ → ℕ → Result Opened OutOfMemory → Type 0
HasOpenCause before now result = RoseIf (is_fault result) before now

-- what a read leaves of what a shelf tells: it gives the front of the rest, and nothing only at its end
abbrev pub ReadLeaves : Result ℕ ReadFailed → List ℕ → ShelfContent → ShelfContent → Type 0
ReadLeaves (Ok n) buf old new =
    (new.files ≡ old.files) × (old.rest ≡ take n buf ++ new.rest) × ((n ≡ 0) ↔ (old.rest ≡ []))
ReadLeaves (Err failed) buf old new = new ≡ old
