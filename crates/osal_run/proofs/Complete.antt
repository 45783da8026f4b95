-- A run ends as its checks say, unless something outside failed.
use Rattle.std.proofs.Common.{◌≡◌, ◌==◌, ℕ, List, true, Option, Some, None, inl, inr, refl, sym, ap, subst}
use Rattle.osal_call.specs.declared.call.Entry.{Entry}
use Rattle.osal_outside.specs.Causes.{Rose, RoseIf}
use Rattle.osal_outside.specs.Shelf.{ShelfContent}
use Rattle.osal_run.specs.declared.exit.Exit.{Exit}
use Rattle.osal_run.specs.declared.exit.Exit.TheVariants as exit
use Rattle.osal_run.specs.Checks.{Check, Refused, Accepted, check_of}
use Rattle.osal_run.specs.Loading.{IfTold}
use Rattle.osal_run.specs.Outcome.{exit_number, Leaves, LeavesFor, Completes}

-- by the exit and what the checks find
completes_by : (ended : Exit) (words : List (List ℕ)) (check : Check) (entries : List Entry) (a b : Option (List ℕ)) (source sink : Type 0) → Leaves ended words check entries a b → (exit_number ended ≡ 4 → source) → (exit_number ended ≡ 5 → sink) → Completes (exit_number ended) source sink check
completes_by exit.Passed words (Accepted app) entries a b source sink left from_source from_sink = λ calm still. inl refl
completes_by exit.Failed words (Accepted app) entries a b source sink left from_source from_sink = λ calm still. inr (inl refl)
completes_by exit.Stalled words (Accepted app) entries a b source sink left from_source from_sink = λ calm still. inr (inr (inl refl))
completes_by exit.Refused words (Accepted app) entries a b source sink left from_source from_sink = absurd left
completes_by exit.SourceFault words (Accepted app) entries a b source sink left from_source from_sink = λ calm still. absurd (calm (from_source refl))
completes_by exit.SinkFault words (Accepted app) entries a b source sink left from_source from_sink = λ calm still. absurd (still (from_sink refl))
completes_by exit.NoMemory words (Accepted app) entries a b source sink left from_source from_sink = λ calm still. inr (inr (inr refl))
completes_by exit.Passed words (Refused refusal) entries a b source sink left from_source from_sink = absurd left
completes_by exit.Failed words (Refused refusal) entries a b source sink left from_source from_sink = absurd left
completes_by exit.Stalled words (Refused refusal) entries a b source sink left from_source from_sink = absurd left
completes_by exit.Refused words (Refused refusal) entries a b source sink left from_source from_sink = λ calm still. inl refl
completes_by exit.SourceFault words (Refused refusal) entries a b source sink left from_source from_sink = λ calm still. absurd (calm (from_source refl))
completes_by exit.SinkFault words (Refused refusal) entries a b source sink left from_source from_sink = λ calm still. absurd (still (from_sink refl))
completes_by exit.NoMemory words (Refused refusal) entries a b source sink left from_source from_sink = λ calm still. inr refl

-- a fault that is told is one by which the count rose
told_fault : (status number before now : ℕ) → RoseIf (status == number) before now → (status == number) ≡ true → Rose before now
told_fault status number before now rose same = subst (λ b. RoseIf b before now) same rose

-- the same where the shelf tells its files
pub completes : (content : Option ShelfContent) (words : List (List ℕ)) (ended : Exit) (entries : List Entry) (a b : Option (List ℕ)) (source_before source_now sink_before sink_now : ℕ) → LeavesFor ended content words entries a b → RoseIf (exit_number ended == 4) source_before source_now → RoseIf (exit_number ended == 5) sink_before sink_now → IfTold content (λ told. Completes (exit_number ended) (Rose source_before source_now) (Rose sink_before sink_now) (check_of told.files words))
completes None words ended entries a b source_before source_now sink_before sink_now leaves source sink = tt
completes (Some told) words ended entries a b source_before source_now sink_before sink_now leaves source sink =
    let left : Leaves ended words (check_of told.files words) entries a b = subst (λ files. Leaves ended words (check_of files words) entries a b) (sym leaves.told) leaves.left in
    completes_by ended words (check_of told.files words) entries a b (Rose source_before source_now) (Rose sink_before sink_now) left (λ is. told_fault (exit_number ended) 4 source_before source_now source (ap (λ n. n == 4) is)) (λ is. told_fault (exit_number ended) 5 sink_before sink_now sink (ap (λ n. n == 5) is))
