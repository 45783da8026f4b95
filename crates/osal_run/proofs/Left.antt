-- What a run leaves, by what was loaded.
use Rattle.std.proofs.Common.{◌≡◌, ◌==◌, ℕ, List, [], true, false, Option, Some, None, Ok, Err, refl, sym, ap, ◌∙◌, subst}
use Rattle.osal_call.specs.declared.call.Entry.{Entry}
use Rattle.osal_outside.specs.Causes.{RoseIf}
use Rattle.osal_outside.specs.Shelf.{Files, ShelfContent}
use Rattle.osal_script.specs.App.{Application}
use Rattle.osal_run.specs.declared.load.Stop.TheVariants as stop
use Rattle.osal_run.specs.declared.refusal.Refusal.{Refusal}
use Rattle.osal_run.specs.declared.refusal.Refusal.TheVariants as refusal
use Rattle.osal_run.specs.declared.exit.Exit.{Exit}
use Rattle.osal_run.specs.declared.exit.Exit.TheVariants as exit
use Rattle.osal_run.specs.Request.{Request, request_of, asks_file}
use Rattle.osal_run.specs.Checks.{Check, Accepted, Refused, check_of, check_request, IsFoundFile}
use Rattle.osal_run.specs.Loading.{Loads}
use Rattle.osal_run.specs.Outcome.{Leaves, LeavesFor, TellsFaults}
use Rattle.osal_run.proofs.Loaded.{files_of, files_told}
use Rattle.osal_run.proofs.Nothing.{left_alone}

-- the check of the words is the check of what they ask for
asked_check : {request : Request} {check : Check} (files : Files) (words : List (List ℕ)) → Some request ≡ request_of words → check_request files (Some request) ≡ check → check_of files words ≡ check
asked_check files words asks found = ap (check_request files) (sym asks) ∙ found

-- words that ask for nothing were refused, and the journal is empty
pub unasked : (content : Option ShelfContent) (words : List (List ℕ)) (ended : Exit) (entries : List Entry) (a b : Option (List ℕ)) → None ≡ request_of words → entries ≡ [] → Leaves ended words (Refused refusal.Usage) [] a b → LeavesFor ended content words entries a b
unasked content words ended entries a b asks none left = record {
  files = files_of content;
  told = files_told content;
  left = rw (← asks, none) left;
}

-- the application was accepted and run
pub accepted : (content : Option ShelfContent) (words : List (List ℕ)) (request : Request) (app : Application) (ended : Exit) (entries : List Entry) (a b : Option (List ℕ)) → Some request ≡ request_of words → Loads content request (Ok app) → Leaves ended words (Accepted app) entries a b → LeavesFor ended content words entries a b
accepted content words request app ended entries a b asks loaded left = record {
  files = loaded.files;
  told = loaded.told;
  left = subst (λ check. Leaves ended words check entries a b) (sym (asked_check loaded.files words asks loaded.found)) left;
}

-- a check refused, and the journal is empty
pub refused : (content : Option ShelfContent) (words : List (List ℕ)) (request : Request) (refusal : Refusal) (ended : Exit) (entries : List Entry) (a b : Option (List ℕ)) → Some request ≡ request_of words → Loads content request (Err (stop.Refused refusal)) → entries ≡ [] → Leaves ended words (Refused refusal) [] a b → LeavesFor ended content words entries a b
refused content words request refusal ended entries a b asks loaded none left = record {
  files = loaded.files;
  told = loaded.told;
  left = subst (λ check. Leaves ended words check entries a b) (sym (asked_check loaded.files words asks loaded.found)) (subst (λ es. Leaves ended words (Refused refusal) es a b) (sym none) left);
}

-- the source failed at the file that is asked for, and the journal is empty
pub unread : (content : Option ShelfContent) (words : List (List ℕ)) (request : Request) (entries : List Entry) (a : Option (List ℕ)) → Some request ≡ request_of words → asks_file (Some request) ≡ true → Loads content request (Err stop.Source) → entries ≡ [] → LeavesFor exit.SourceFault content words entries a a
unread content words request entries a asks file loaded none = record {
  files = loaded.files;
  told = loaded.told;
  left = record {
    there = record {
      asked = ap asks_file (sym asks) ∙ file;
      found = subst IsFoundFile (ap (check_request loaded.files) asks) loaded.found;
    };
    empty = none;
    still = refl;
  };
}

-- there was no memory to load it, and the journal is empty
pub unloaded : (content : Option ShelfContent) (words : List (List ℕ)) (request : Request) (entries : List Entry) (a : Option (List ℕ)) → Loads content request (Err stop.Memory) → entries ≡ [] → LeavesFor exit.NoMemory content words entries a a
unloaded content words request entries a loaded none = record {
  files = loaded.files;
  told = loaded.told;
  left = left_alone words (check_of loaded.files words) a entries none;
}

-- the source was read without a fault, and the sink counts its own
pub told_faults : (status source_before source_now sink_before sink_now : ℕ) → source_now ≡ source_before → (status == 4) ≡ false → RoseIf (status == 5) sink_before sink_now → TellsFaults status source_before source_now sink_before sink_now
told_faults status source_before source_now sink_before sink_now still calm sink =
    record { source = subst (λ b. RoseIf b source_before source_now) (sym calm) still; sink = sink }
