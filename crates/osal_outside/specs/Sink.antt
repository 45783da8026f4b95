-- A sink of bytes: what its calls leave of the bytes written.
use Rattle.std.specs.Prelude.{◌≡◌, ◌≤◌, List, ◌++◌, ℕ, take, length, Option, Result, Ok, Err}
use Rattle.osal_outside.specs.declared.sink.WriteFailed.{WriteFailed}

-- a write appends the piece's first bytes, or nothing where it fails
abbrev pub WriteLeaves : Result ℕ WriteFailed → List ℕ → List ℕ → List ℕ → Type 0
WriteLeaves (Ok n) piece old new = new ≡ old ++ take n piece
WriteLeaves (Err failed) piece old new = new ≡ old

-- a flush hands on all that was written, or nothing more where it fails
abbrev pub FlushLeaves : {A : Type 0} → Result (Unit {0}) WriteFailed → Option A → Option A → Option A → Type 0
FlushLeaves (Ok done) written before now = now ≡ written
FlushLeaves (Err failed) written before now = now ≡ before

-- the bytes were appended
abbrev pub Appends : List ℕ → List ℕ → List ℕ → Type 0
Appends bytes old new = new ≡ old ++ bytes

-- a prefix of the bytes was appended
pub record AppendsPrefix (bytes old new : List ℕ) : Type 0 where
  pub count : ℕ
  pub within : count ≤ length bytes
  pub appended : new ≡ old ++ take count bytes
