-- A directory that is open.
use Rattle.std.specs.Prelude.{List, ℕ}

-- the file system and the path where it stands, the names that it had when it was opened, and how many of them were read
pub record Directory : Type 0 where
  pub system : ℕ
  pub trail : List (List ℕ)
  pub names : List (List ℕ)
  pub next : ℕ
