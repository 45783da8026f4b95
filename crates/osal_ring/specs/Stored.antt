-- How messages are stored: their bytes one behind the other, beside their lengths.
use Rattle.std.specs.Prelude.{◌≡◌, ◌≤◌, ◌*◌, ℕ, List, [], ◌∷◌, length, take, drop}
use Rattle.std.specs.List.{All, sum}
use Rattle.osal_ring.specs.declared.messages.Messages.TheInside.{Inside}
use Rattle.osal_ring.specs.Messages.{Messages, messages_limit}

-- bytes cut into messages of these lengths
abbrev pub cut : List ℕ → List ℕ → List (List ℕ)
cut [] bytes = []
cut (n ∷ lengths) bytes = take n bytes ∷ cut lengths (drop n bytes)

-- the messages that are stored
abbrev pub messages_of : Inside → Messages
messages_of inside = record {
  depth = inside.depth;
  size = inside.size;
  messages = cut inside.lengths.items inside.bytes.bytes;
}

-- the lengths are those of messages that fit and that make up the bytes, and each ring has room for as many as there may be
pub record IsStored (inside : Inside) : Type 0 where
  pub whole : sum inside.lengths.items ≡ length inside.bytes.bytes
  pub each : All (λ n. n ≤ inside.size) inside.lengths.items
  pub room : inside.bytes.capacity ≡ inside.depth * inside.size
  pub places : inside.lengths.capacity ≡ inside.depth
  pub small : inside.size ≤ messages_limit
