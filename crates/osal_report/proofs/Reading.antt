-- A task's script that is read in parts.
use Rattle.std.proofs.Common.{◌≡◌, ◌==◌, ◌&&◌, ◌<◌, ◌+◌, ◌++◌, not, List, [], ◌∷◌, ℕ, Bool, true, false, cond, length, drop, get_or, refl, sym, ap, subst, ◌∙◌, append_assoc, arith}
use Rattle.std.proofs.lemmas.List.{drop_more}
use Rattle.std.proofs.lemmas.Bool.Decides.{nat_tests}
use Rattle.osal_call.specs.declared.call.Entry.{Entry}
use Rattle.osal_script.specs.declared.phase.Phase.{Phase}
use Rattle.osal_script.specs.declared.phase.Phase.TheVariants as phase
use Rattle.osal_script.specs.App.{Application}
use Rattle.osal_script.specs.Script.{ScriptState, after_entry, reached, is_ended}
use Rattle.osal_report.specs.Cases.{case_by, cases_from, failed}
use Rattle.osal_report.specs.Report.{is_stalled}
use Rattle.osal_runs.specs.Spans.{begins, if_of, span_of}
use Rattle.osal_report.proofs.Pushed.{failed_append}
use Rattle.osal_report.proofs.Ended.{ended_reached, ended_cases}

-- a script goes on by some entries and by others
reached_append : (state : ScriptState) (front rest : List Entry) → reached state (front ++ rest) ≡ reached (reached state front) rest
reached_append state [] rest = refl
reached_append state (entry ∷ front) rest = reached_append (after_entry state entry) front rest

-- and makes the cases of both
cases_append : (state : ScriptState) (front rest : List Entry) → cases_from state (front ++ rest) ≡ cases_from state front ++ cases_from (reached state front) rest
cases_append state [] rest = refl
cases_append state (entry ∷ front) rest =
    ap (λ cases. case_by state entry ++ cases) (cases_append (after_entry state entry) front rest)
    ∙ sym (append_assoc (case_by state entry) (cases_from (after_entry state entry) front) _)

-- a sum is 0 where both numbers are
pub no_sum : (a b : ℕ) → (a + b == 0) ≡ ((a == 0) && (b == 0))
no_sum a b = grind (arith, nat_tests)

and_assoc : (a b c : Bool) → (a && (b && c)) ≡ ((a && b) && c)
and_assoc true b c = refl
and_assoc false b c = refl

-- a script that has come to a state, of which no case failed or one did, with the entries that are left: whether it
-- stalls, and whether all its cases pass
pub record Ends (state : ScriptState) (fails : Bool) (rest : List Entry) (stalls passes : Bool) : Type 0 where
  pub stalled : is_stalled (reached state rest).phase ≡ stalls
  pub passed : (not fails && (failed (cases_from state rest) == 0)) ≡ passes

-- some of the entries that are left are read
ends_read : (state after : ScriptState) (fails later : Bool) (one more : List Entry) {stalls passes : Bool} → Ends state fails (one ++ more) stalls passes → after ≡ reached state one → not later ≡ (not fails && (failed (cases_from state one) == 0)) → Ends after later more stalls passes
ends_read state after fails later one more ends by_state by_fails = record {
  stalled = rw by_state (ap (λ (s : ScriptState). is_stalled s.phase) (sym (reached_append state one more)) ∙ ends.stalled);
  passed =
      let cases = failed_append (cases_from state one) (cases_from (reached state one) more) in
      let both : (failed (cases_from state (one ++ more)) == 0) ≡ ((failed (cases_from state one) == 0) && (failed (cases_from (reached state one) more) == 0)) = ap (λ cs. failed cs == 0) (cases_append state one more) ∙ ap (λ n. n == 0) cases ∙ no_sum _ _ in
      rw (by_state, by_fails)
      (sym (and_assoc (not fails) (failed (cases_from state one) == 0) (failed (cases_from (reached state one) more) == 0))
      ∙ ap (λ b. not fails && b) (sym both) ∙ ends.passed);
}

only_ended : (p : Phase) → is_ended p ≡ true → p ≡ phase.Ended
only_ended phase.Before e = cc
only_ended phase.At e = cc
only_ended (phase.Waiting part) e = cc
only_ended (phase.Leaving part) e = cc
only_ended phase.Ended e = refl

-- nothing that is left matters where the script is at its end
pub ends_ended : {state : ScriptState} {fails : Bool} {rest : List Entry} {stalls passes : Bool} → Ends state fails rest stalls passes → is_ended state.phase ≡ true → Ends state fails [] stalls passes
ends_ended {state} {fails} {rest} ends ended =
    let at_end = only_ended state.phase ended in
    record {
      stalled = ap (λ (s : ScriptState). is_stalled s.phase) (sym (ended_reached state rest at_end)) ∙ ends.stalled;
      passed = ap (λ cs. not fails && (failed cs == 0)) (sym (ended_cases state rest at_end)) ∙ ends.passed;
    }

and_true : (b : Bool) → (b && true) ≡ b
and_true true = refl
and_true false = refl

-- where nothing is left, the state says it all
pub ends_here : {state : ScriptState} {fails stalls passes : Bool} → Ends state fails [] stalls passes → (is_stalled state.phase ≡ stalls) × (not fails ≡ passes)
ends_here {state} {fails} ends = (ends.stalled, sym (and_true (not fails)) ∙ ends.passed)

-- the entries from a place on are the one there, where it is the task's, and the task's behind it
entries_at : (app : Application) (id : ℕ) (entries : List Entry) (i : ℕ) (entry : Entry) → i < length entries → entry ≡ get_or entries i entry → span_of app id (drop i entries) ≡ if_of id entry ++ cond (begins app entry id) [] (span_of app id (drop (i + 1) entries))
entries_at app id entries i entry within is =
    ap (span_of app id) (drop_more entries i entry within ∙ ap (λ e. e ∷ drop (i + 1) entries) (sym is))

-- the entry at a place is read
pub ends_more : (app : Application) (id : ℕ) (entries : List Entry) (i : ℕ) (entry : Entry) (state after : ScriptState) (fails later : Bool) {stalls passes : Bool} → i < length entries → entry ≡ get_or entries i entry → Ends state fails (span_of app id (drop i entries)) stalls passes → after ≡ reached state (if_of id entry) → not later ≡ (not fails && (failed (cases_from state (if_of id entry)) == 0)) → Ends after later (cond (begins app entry id) [] (span_of app id (drop (i + 1) entries))) stalls passes
ends_more app id entries i entry state after fails later {stalls} {passes} within is ends by_state by_fails =
    ends_read state after fails later (if_of id entry) _ (subst (λ (rest : List Entry). Ends state fails rest stalls passes) (entries_at app id entries i entry within is) ends) by_state by_fails
