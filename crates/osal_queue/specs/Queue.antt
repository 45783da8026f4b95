-- One queue of messages.
use Rattle.std.specs.Prelude.{◌&&◌, ◌++◌, List, [], ◌∷◌, ℕ, Bool, nat_le}

-- a queue: how many messages it holds at most, how many bytes a message has at most, the task that made it, and its
-- messages, the oldest first
pub record Queue : Type 0 where
  pub depth : ℕ
  pub size : ℕ
  pub creator : ℕ
  pub messages : List (List ℕ)

-- the most messages that a queue may be made for
abbrev pub depth_limit : ℕ
depth_limit = 50

-- the most bytes that a queue's messages may be made for
abbrev pub size_limit : ℕ
size_limit = 1024

-- whether a queue may have this depth and this message size
abbrev pub may_be_sized : ℕ → ℕ → Bool
may_be_sized depth size =
    nat_le 1 depth && nat_le depth depth_limit && nat_le 1 size && nat_le size size_limit

-- a queue without messages
abbrev pub empty_queue : ℕ → ℕ → ℕ → Queue
empty_queue depth size creator = record { depth = depth; size = size; creator = creator; messages = [] }

-- a queue with other messages
abbrev pub with_messages : Queue → List (List ℕ) → Queue
with_messages queue messages = record queue { messages = messages }

-- a queue with one message more, the newest
abbrev pub with_message : Queue → List ℕ → Queue
with_message queue message = with_messages queue (queue.messages ++ message ∷ [])

-- a queue with one message more, the oldest
abbrev pub with_first : List ℕ → Queue → Queue
with_first message queue = with_messages queue (message ∷ queue.messages)
