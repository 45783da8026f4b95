-- A journal as contracts see it.
use Rattle.std.specs.Prelude.{List, ℕ}
use Rattle.osal_call.specs.declared.call.Entry.{Entry}

-- the entries, and how many more fit without asking for memory
pub record Entries : Type 0 where
  pub entries : List Entry
  pub spare : ℕ
