-- A quotation is read byte by byte.
use Rattle.std.proofs.Common.{◌≡◌, ◌<◌, ◌≤◌, ◌+◌, ℕ, List, [], ◌∷◌, ◌++◌, length, drop, get_or, Option, Some, None, refl, sym, ap, ◌∙◌, append_assoc, length-drop, arith}
use Rattle.std.proofs.lemmas.List.{at_drop_more, at_drop_all, append-nil}
use Rattle.osal_line.specs.declared.strings.StringPhase.{StringPhase}
use Rattle.osal_line.specs.declared.strings.StringPhase.TheVariants as phase
use Rattle.osal_line.specs.declared.strings.StringTurn.{StringTurn}
use Rattle.osal_line.specs.declared.strings.StringTurn.TheVariants as turn
use Rattle.osal_line.specs.Values.{string_from, prepended, at_end}
use Rattle.osal_line.specs.Turns.{turned, HasDigit, LeadsToDigit}

-- some bytes before the rest of a string
abbrev pub with_front : List ℕ → Option (List ℕ) → Option (List ℕ)
with_front front None = None
with_front front (Some rest) = Some (front ++ rest)

-- no bytes before a string
pub front_nothing : (text : Option (List ℕ)) → with_front [] text ≡ text
front_nothing None = refl
front_nothing (Some text) = refl

front_byte : (front : List ℕ) (byte : ℕ) (rest : Option (List ℕ)) → with_front (front ++ byte ∷ []) rest ≡ with_front front (prepended byte rest)
front_byte front byte None = refl
front_byte front byte (Some rest) = ap Some (append_assoc front (byte ∷ []) rest)

-- one turn of a string whose front is read
pub turn_more : (front bytes : List ℕ) (at : StringPhase) (done : StringTurn) (i : ℕ) → i < length bytes → ((rest : List ℕ) → string_from at (get_or bytes i 0 ∷ rest) ≡ turned done rest) → with_front front (string_from at (drop i bytes)) ≡ with_front front (turned done (drop (i + 1) bytes))
turn_more front bytes at done i within turns =
    ap (with_front front) (at_drop_more (string_from at) bytes i 0 within ∙ turns (drop (i + 1) bytes))

-- a byte that is a part of an escape
pub turn_next : (front bytes : List ℕ) (at next : StringPhase) (i : ℕ) → i < length bytes → ((rest : List ℕ) → string_from at (get_or bytes i 0 ∷ rest) ≡ turned (turn.Next next) rest) → with_front front (string_from next (drop (i + 1) bytes)) ≡ with_front front (string_from at (drop i bytes))
turn_next front bytes at next i within turns = sym (turn_more front bytes at (turn.Next next) i within turns)

-- a byte that completes one
pub turn_byte : (front bytes : List ℕ) (at : StringPhase) (byte i : ℕ) → i < length bytes → ((rest : List ℕ) → string_from at (get_or bytes i 0 ∷ rest) ≡ turned (turn.Byte byte) rest) → with_front (front ++ byte ∷ []) (string_from phase.Plain (drop (i + 1) bytes)) ≡ with_front front (string_from at (drop i bytes))
turn_byte front bytes at byte i within turns =
    front_byte front byte (string_from phase.Plain (drop (i + 1) bytes)) ∙ sym (turn_more front bytes at (turn.Byte byte) i within turns)

-- the closing mark at the end
pub turn_close : (front bytes : List ℕ) (at : StringPhase) (i : ℕ) → i < length bytes → length bytes ≤ i + 1 → ((rest : List ℕ) → string_from at (get_or bytes i 0 ∷ rest) ≡ turned turn.Close rest) → with_front front (string_from at (drop i bytes)) ≡ Some front
turn_close front bytes at i within last turns =
    turn_more front bytes at turn.Close i within turns
    ∙ ap (with_front front) (at_drop_all at_end bytes (i + 1) last)
    ∙ ap Some (append-nil front)

more_than_end : (rest : List ℕ) → 0 < length rest → at_end rest ≡ None
more_than_end [] h = absurd (omega arith)
more_than_end (byte ∷ rest) h = refl

-- a closing mark before the end
pub turn_early : (front bytes : List ℕ) (at : StringPhase) (i : ℕ) → i + 1 < length bytes → ((rest : List ℕ) → string_from at (get_or bytes i 0 ∷ rest) ≡ turned turn.Close rest) → with_front front (string_from at (drop i bytes)) ≡ None
turn_early front bytes at i within turns =
    turn_more front bytes at turn.Close i (omega arith) turns
    ∙ ap (with_front front) (more_than_end (drop (i + 1) bytes) (omega (arith, length-drop (i + 1) bytes)))

-- a byte that may not stand there
pub turn_wrong : (front bytes : List ℕ) (at : StringPhase) (i : ℕ) → i < length bytes → ((rest : List ℕ) → string_from at (get_or bytes i 0 ∷ rest) ≡ turned turn.Wrong rest) → with_front front (string_from at (drop i bytes)) ≡ None
turn_wrong front bytes at i within turns = turn_more front bytes at turn.Wrong i within turns

ends_open : (at : StringPhase) → string_from at [] ≡ None
ends_open phase.Plain = refl
ends_open phase.Backslash = refl
ends_open phase.Hex = refl
ends_open (phase.HexEnd high) = refl

-- a quotation that is not closed
pub never_closed : (front bytes : List ℕ) (at : StringPhase) (i : ℕ) → length bytes ≤ i → with_front front (string_from at (drop i bytes)) ≡ None
never_closed front bytes at i past =
    ap (with_front front) (at_drop_all (string_from at) bytes i past ∙ ends_open at)

-- the loop goes on behind a part of an escape
pub next_kept : (front front′ bytes : List ℕ) (whole : Option (List ℕ)) (at next at′ : StringPhase) (done : StringTurn) (i : ℕ) → i < length bytes → ((rest : List ℕ) → string_from at (get_or bytes i 0 ∷ rest) ≡ turned done rest) → LeadsToDigit done → done ≡ turn.Next next → at′ ≡ next → front′ ≡ front → with_front front (string_from at (drop i bytes)) ≡ whole → HasDigit at′ × (with_front front′ (string_from at′ (drop (i + 1) bytes)) ≡ whole)
next_kept front front′ bytes whole at next at′ done i within turns digit done-is at-is front-is so_far =
    let turns′ = rw done-is at turns in
    let digit′ = rw done-is at digit in
    rw (at-is, front-is) (digit′, turn_next front bytes at next i within turns′ ∙ so_far)

-- the loop goes on behind a byte
pub byte_kept : (front front′ bytes : List ℕ) (whole : Option (List ℕ)) (at at′ : StringPhase) (done : StringTurn) (byte i : ℕ) → i < length bytes → ((rest : List ℕ) → string_from at (get_or bytes i 0 ∷ rest) ≡ turned done rest) → done ≡ turn.Byte byte → at′ ≡ phase.Plain → front′ ≡ front ++ byte ∷ [] → with_front front (string_from at (drop i bytes)) ≡ whole → HasDigit at′ × (with_front front′ (string_from at′ (drop (i + 1) bytes)) ≡ whole)
byte_kept front front′ bytes whole at at′ done byte i within turns done-is at-is front-is so_far =
    let turns′ = rw done-is at turns in
    rw (at-is, front-is) (tt, turn_byte front bytes at byte i within turns′ ∙ so_far)
