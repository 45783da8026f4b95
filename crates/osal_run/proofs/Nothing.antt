-- A run that did nothing.
use Rattle.std.proofs.Common.{◌≡◌, List, [], ℕ, Option, refl, sym, subst}
use Rattle.osal_outside.specs.Causes.{WhereTold}
use Rattle.osal_outside.specs.Sink.{AppendsPrefix}
use Rattle.osal_outside.proofs.Appended.{none_appended, whole_prefix, longer_prefix}
use Rattle.osal_call.specs.declared.call.Entry.{Entry}
use Rattle.osal_script.specs.App.{Application}
use Rattle.osal_runs.specs.Runs.{IsPartRun}
use Rattle.osal_run.specs.declared.exit.Exit.TheVariants as exit
use Rattle.osal_run.specs.Checks.{Check, Refused, Accepted}
use Rattle.osal_run.specs.Outcome.{Leaves}

-- no bytes are a prefix
pub no_bytes : (text : List ℕ) (written : Option (List ℕ)) → WhereTold written written (AppendsPrefix text)
no_bytes text written = longer_prefix written written [] text (whole_prefix written written [] (none_appended written))

-- no entries are a front of any run
no_entries : (app : Application) → IsPartRun app []
no_entries app = record {
  legal = tt;
  follows = record { begins = tt; timed = tt; scripts = tt; ended = tt };
  timely = tt;
}

-- nothing is a run that was cut short, whatever the checks find
cut_at_once : (words : List (List ℕ)) (check : Check) (written : Option (List ℕ)) → Leaves exit.NoMemory words check [] written written
cut_at_once words (Accepted app) written = (no_entries app, no_bytes _ written)
cut_at_once words (Refused refusal) written = (refl, no_bytes _ written)

-- a run that found no memory before it began
pub left_alone : (words : List (List ℕ)) (check : Check) (written : Option (List ℕ)) (entries : List Entry) → entries ≡ [] → Leaves exit.NoMemory words check entries written written
left_alone words check written entries none =
    subst (λ es. Leaves exit.NoMemory words check es written written) (sym none) (cut_at_once words check written)
