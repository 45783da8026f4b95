-- Which lists of calls with their replies are histories of the machine.
use Rattle.std.specs.Prelude.{◌≡◌, ◌==◌, List, [], ◌∷◌, ℕ, filter}
use Rattle.osal_base.specs.declared.limits.Limits.{Limits}
use Rattle.osal_base.specs.Reply.{reply_of}
use Rattle.osal_call.specs.declared.call.Entry.{Entry}
use Rattle.osal_call.specs.Call.{part_of}
use Rattle.osal_machine.specs.Step.{MachineState, opening, step}

-- the state that an entry's call leaves
abbrev pub after_entry : MachineState → Entry → MachineState
after_entry state entry = (step state entry.task entry.now entry.call).1

-- the state after the entries, in order
abbrev pub replay_from : MachineState → List Entry → MachineState
replay_from state [] = state
replay_from state (entry ∷ entries) = replay_from (after_entry state entry) entries

-- each entry has the reply that the machine gives in the state before it
abbrev pub IsLegalFrom : MachineState → List Entry → Type 0
IsLegalFrom state [] = Unit {0}
IsLegalFrom state (entry ∷ entries) =
    (reply_of entry.reply ≡ (step state entry.task entry.now entry.call).0)
    × IsLegalFrom (after_entry state entry) entries

-- the state after a whole journal
abbrev pub replay : Limits → List Entry → MachineState
replay limits entries = replay_from (opening limits) entries

-- a legal history of the machine with these limits
abbrev pub IsLegal : Limits → List Entry → Type 0
IsLegal limits entries = IsLegalFrom (opening limits) entries

-- the entries of a part
abbrev pub entries_of_part : ℕ → List Entry → List Entry
entries_of_part part entries = filter (λ entry. part_of entry.call == part) entries
