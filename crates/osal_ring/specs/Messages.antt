-- Messages that wait in a ring to be taken.
use Rattle.std.specs.Prelude.{◌++◌, List, [], ◌∷◌, ℕ, drop}

-- messages: how many there may be, how many bytes each has at most, and those that are there, the oldest first
pub record Messages : Type 0 where
  pub depth : ℕ
  pub size : ℕ
  pub messages : List (List ℕ)

-- the most messages that there may be room for, and the most bytes of each
abbrev pub messages_limit : ℕ
messages_limit = 1024

-- no messages
abbrev pub no_messages : ℕ → ℕ → Messages
no_messages depth size = record { depth = depth; size = size; messages = [] }

-- one message more, the newest
abbrev pub with_newest : Messages → List ℕ → Messages
with_newest waiting message = record waiting { messages = waiting.messages ++ message ∷ [] }

-- the oldest of some messages, if there is one
abbrev pub oldest : List (List ℕ) → List ℕ
oldest [] = []
oldest (message ∷ messages) = message

-- the messages without the oldest
abbrev pub without_oldest : Messages → Messages
without_oldest waiting = record waiting { messages = drop 1 waiting.messages }
