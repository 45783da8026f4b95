-- A legal history goes on by one entry.
use Rattle.std.proofs.Common.{◌≡◌, List, [], ◌∷◌, ◌++◌, refl}
use Rattle.osal_base.specs.Reply.{reply_of}
use Rattle.osal_call.specs.declared.call.Entry.{Entry}
use Rattle.osal_machine.specs.Step.{MachineState, step}
use Rattle.osal_machine.specs.History.{after_entry, replay_from, IsLegalFrom}

-- the state after one more entry
pub replay_push : (state : MachineState) (entries : List Entry) (entry : Entry) → replay_from state (entries ++ entry ∷ []) ≡ after_entry (replay_from state entries) entry
replay_push state [] entry = refl
replay_push state (first ∷ entries) entry = replay_push (after_entry state first) entries entry

-- the state after more entries
pub replay_split : (state : MachineState) (entries : List Entry) (entry : Entry) (more : List Entry) → replay_from state (entries ++ entry ∷ more) ≡ replay_from (after_entry (replay_from state entries) entry) more
replay_split state [] entry more = refl
replay_split state (first ∷ entries) entry more = replay_split (after_entry state first) entries entry more

-- an entry with the machine's reply keeps the history legal
pub legal_push : (state : MachineState) (entries : List Entry) (entry : Entry) → IsLegalFrom state entries → reply_of entry.reply ≡ (step (replay_from state entries) entry.task entry.now entry.call).0 → IsLegalFrom state (entries ++ entry ∷ [])
legal_push state [] entry legal replied = (replied, tt)
legal_push state (first ∷ entries) entry legal replied =
    (legal.0, legal_push (after_entry state first) entries entry legal.1 replied)

-- the last entry of a legal history has the machine's reply
pub legal_last : (state : MachineState) (entries : List Entry) (entry : Entry) → IsLegalFrom state (entries ++ entry ∷ []) → reply_of entry.reply ≡ (step (replay_from state entries) entry.task entry.now entry.call).0
legal_last state [] entry legal = legal.0
legal_last state (first ∷ entries) entry legal = legal_last (after_entry state first) entries entry legal.1

-- what follows in a legal history is legal from the state that is left
pub legal_rest : (state : MachineState) (before after : List Entry) → IsLegalFrom state (before ++ after) → IsLegalFrom (replay_from state before) after
legal_rest state [] after legal = legal
legal_rest state (first ∷ before) after legal = legal_rest (after_entry state first) before after legal.1
