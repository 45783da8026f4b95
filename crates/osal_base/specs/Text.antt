-- What a contract sees of owned bytes.
use Rattle.std.specs.Prelude.{List, ℕ}

-- the bytes, and how many more fit without asking for memory
pub record Text : Type 0 where
  pub bytes : List ℕ
  pub spare : ℕ
