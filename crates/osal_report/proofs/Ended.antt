-- A script that is at its end stays there.
use Rattle.std.proofs.Common.{◌≡◌, ◌++◌, List, [], ◌∷◌, refl, ap, ◌∙◌}
use Rattle.osal_base.specs.Reply.{reply_of}
use Rattle.osal_call.specs.declared.call.Entry.{Entry}
use Rattle.osal_script.specs.declared.phase.Phase.TheVariants as phase
use Rattle.osal_script.specs.Script.{ScriptState, after_in, after_entry, reached}
use Rattle.osal_report.specs.Cases.{case_in, cases_from}

ended_after : (state : ScriptState) (entry : Entry) → state.phase ≡ phase.Ended → after_entry state entry ≡ state
ended_after state entry ended = ap (λ p. after_in p state entry.call (reply_of entry.reply)) ended

-- no entry moves it
pub ended_reached : (state : ScriptState) (entries : List Entry) → state.phase ≡ phase.Ended → reached state entries ≡ state
ended_reached state [] ended = refl
ended_reached state (entry ∷ entries) ended =
    ap (λ s. reached s entries) (ended_after state entry ended) ∙ ended_reached state entries ended

-- and none makes a case
pub ended_cases : (state : ScriptState) (entries : List Entry) → state.phase ≡ phase.Ended → cases_from state entries ≡ []
ended_cases state [] ended = refl
ended_cases state (entry ∷ entries) ended =
    ap (λ p. case_in p state.pending entry.call (reply_of entry.reply) ++ cases_from (after_entry state entry) entries) ended
    ∙ ap (λ s. cases_from s entries) (ended_after state entry ended)
    ∙ ended_cases state entries ended
