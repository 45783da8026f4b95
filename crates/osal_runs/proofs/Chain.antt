-- The segments of a journal, creation by creation.
use Rattle.std.proofs.Common.{◌≡◌, ◌≢◌, ⊎_elim, ◌==◌, ◌++◌, ◌||◌, List, [], ◌∷◌, ℕ, Bool, true, false, cond, map, Option, Some, None, slice_get, refl, sym, ap, ◌∙◌, append_assoc, arith}
use Rattle.std.proofs.lemmas.List.{append-nil}
use Rattle.std.proofs.lemmas.List.Folds.{list_any-append}
use Rattle.std.proofs.lemmas.Bool.Decides.{nat_tests}
use Rattle.std.proofs.lemmas.Bool.{cases_eq, cond_both}
use Rattle.osal_call.specs.declared.call.Entry.{Entry}
use Rattle.osal_call.specs.declared.call.Call.{Call}
use Rattle.osal_call.specs.declared.call.Call.TheVariants as call
use Rattle.osal_script.specs.App.{Application, ScriptBody}
use Rattle.osal_script.specs.Script.{is_success}
use Rattle.osal_runs.specs.Segments.{Segment, is_of, has_segment, joined, segment_with, begun_by, begun, recorded, segments_from, segments_of}
use Rattle.osal_runs.proofs.Segments.{has_joined, joined_none}
use Rattle.osal_runs.specs.Spans.{begins, if_of, span_of, with_span, SegmentsAreSpans}

-- a segment with more entries
abbrev pub with_more : Segment → List Entry → Segment
with_more segment more = record segment { entries = segment.entries ++ more }

with_none : (segment : Segment) → with_more segment [] ≡ segment
with_none segment = ap (λ es. record segment { entries = es }) (append-nil segment.entries)

-- a segment has the identifiers of the segments so far, and that which the entry begins
has_recorded : (app : Application) (segments : List Segment) (entry : Entry) (id : ℕ) → has_segment (recorded app segments entry) id ≡ (has_segment segments id || begins app entry id)
has_recorded app segments entry id =
    list_any-append (is_of id) (joined segments entry) (begun app entry)
    ∙ ap (λ has. has || begins app entry id) (has_joined segments entry id)

first_same : (segment : Segment) (segments after : List Segment) (entry : Entry) (has : Bool) → (has ≡ false → after ≡ segments) → cond has (segment ∷ after) (with_more segment (entry ∷ []) ∷ segments) ≡ with_more segment (cond has [] (entry ∷ [])) ∷ after
first_same segment segments after entry true none = ap (λ s. s ∷ after) (sym (with_none segment))
first_same segment segments after entry false none =
    ap (λ rest. with_more segment (entry ∷ []) ∷ rest) (sym (none refl))

first_apart : (segment : Segment) (segments after : List Segment) (has own : Bool) → (has ≡ false → after ≡ segments) → cond has (segment ∷ after) (segment ∷ segments) ≡ with_more segment (cond {A = List Entry} own [] []) ∷ after
first_apart segment segments after true true none = ap (λ s. s ∷ after) (sym (with_none segment))
first_apart segment segments after true false none = ap (λ s. s ∷ after) (sym (with_none segment))
first_apart segment segments after false true none =
    ap (λ rest. segment ∷ rest) (sym (none refl)) ∙ ap (λ s. s ∷ after) (sym (with_none segment))
first_apart segment segments after false false none =
    ap (λ rest. segment ∷ rest) (sym (none refl)) ∙ ap (λ s. s ∷ after) (sym (with_none segment))

-- an entry may join the first segment, and joins the others
pub joined_first : (segment : Segment) (segments : List Segment) (entry : Entry) → joined (segment ∷ segments) entry ≡ with_more segment (cond (has_segment segments segment.id) [] (if_of segment.id entry)) ∷ joined segments entry
joined_first segment segments entry =
    ⊎_elim
    (λ (same : segment.id ≡ entry.task).
    let own : (segment.id == entry.task) ≡ true = grind (arith, nat_tests) in
    let of : (entry.task == segment.id) ≡ true = grind (arith, nat_tests) in
    rw (own, of, ap (has_segment segments) same) (first_same segment segments (joined segments entry) entry (has_segment segments entry.task) (joined_none segments entry)))
    (λ (apart : segment.id ≢ entry.task).
    let own : (segment.id == entry.task) ≡ false = grind (arith, nat_tests) in
    let of : (entry.task == segment.id) ≡ false = grind (arith, nat_tests) in
    rw (own, of) (first_apart segment segments (joined segments entry) (has_segment segments entry.task) (has_segment segments segment.id) (joined_none segments entry)))
    (cases_eq segment.id entry.task)

none_either : {A : Type 0} (has : Bool) → cond {A = List A} has [] [] ≡ []
none_either true = refl
none_either false = refl

more_step : (segment : Segment) (one more : List Entry) (has again : Bool) → with_more (with_more segment (cond has [] one)) (cond (has || again) [] more) ≡ with_more segment (cond has [] (one ++ cond again [] more))
more_step segment one more true again = with_none (with_more segment [])
more_step segment one more false again = ap (λ es. record segment { entries = es }) (append_assoc segment.entries one _)

-- what the first segment takes, and what the others come to
pub segments_first : (app : Application) (segment : Segment) (segments : List Segment) (entries : List Entry) → segments_from app (segment ∷ segments) entries ≡ with_more segment (cond (has_segment segments segment.id) [] (span_of app segment.id entries)) ∷ segments_from app segments entries
segments_first app segment segments [] =
    ap (λ s. s ∷ segments) (sym (ap (with_more segment) (none_either (has_segment segments segment.id)) ∙ with_none segment))
segments_first app segment segments (entry ∷ entries) =
    let one = if_of segment.id entry in
    let has = has_segment segments segment.id in
    let rest = recorded app segments entry in
    let more = span_of app segment.id entries in
    ap (λ segs. segments_from app (segs ++ begun app entry) entries) (joined_first segment segments entry)
    ∙ segments_first app (with_more segment (cond has [] one)) rest entries
    ∙ ap (λ own. with_more (with_more segment (cond has [] one)) (cond own [] more) ∷ segments_from app rest entries) (has_recorded app segments entry segment.id)
    ∙ ap (λ s. s ∷ segments_from app rest entries) (more_step segment one more has (begins app entry segment.id))

-- an entry that creates no task leaves it to the others
pub chain_none : (app : Application) (entry : Entry) (entries : List Entry) → begun app entry ≡ [] → segments_of app (entry ∷ entries) ≡ segments_of app entries
chain_none app entry entries none = ap (λ segs. segments_from app segs entries) none

-- an entry that creates a task begins its segment, before those of the others
pub chain_some : (app : Application) (entry : Entry) (entries : List Entry) (segment : Segment) → begun app entry ≡ segment ∷ [] → segments_of app (entry ∷ entries) ≡ with_more segment (span_of app segment.id entries) ∷ segments_of app entries
chain_some app entry entries segment one =
    ap (λ segs. segments_from app segs entries) one ∙ segments_first app segment [] entries

-- some segments are one at most
abbrev IsOneAtMost : List Segment → Type 0
IsOneAtMost (one ∷ another ∷ more) = ⊥
IsOneAtMost other = Unit {0}

one_of : (id : ℕ) (name : List ℕ) (bodies : List ScriptBody) (found : Option ScriptBody) → IsOneAtMost (segment_with id name bodies found)
one_of id name bodies None = tt
one_of id name bodies (Some body) = tt

begun_one : (app : Application) (made : Call) (id : ℕ) → IsOneAtMost (begun_by app made id)
begun_one app (call.TaskCreate name body stack priority) id = one_of id name.bytes app.bodies (slice_get app.bodies body)
begun_one app _ id = tt

spans_step : (app : Application) (entry : Entry) (entries : List Entry) (new : List Segment) → begun app entry ≡ new → IsOneAtMost new → segments_of app (entry ∷ entries) ≡ map (with_span app entries) new ++ segments_of app entries
spans_step app entry entries [] is one = chain_none app entry entries is
spans_step app entry entries (segment ∷ []) is one = chain_some app entry entries segment is
spans_step app entry entries (segment ∷ another ∷ more) is one = absurd one

-- the walk along a journal gives each creation its span
pub segments_are_spans : SegmentsAreSpans
segments_are_spans app [] = refl
segments_are_spans app (entry ∷ entries) =
    let one : IsOneAtMost (begun app entry) = cond_both (is_success entry.reply.answer) _ _ IsOneAtMost (λ t. begun_one app entry.call entry.reply.number) (λ f. tt) in
    spans_step app entry entries (begun app entry) refl one
    ∙ ap (λ segments. map (with_span app entries) (begun app entry) ++ segments) (segments_are_spans app entries)
