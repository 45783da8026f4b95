-- The span of a creation in a journal: the entries of the task that it creates.
use Rattle.std.specs.Prelude.{◌≡◌, ◌==◌, ◌++◌, List, [], ◌∷◌, ℕ, Bool, map, if◌then◌else◌}
use Rattle.osal_call.specs.declared.call.Entry.{Entry}
use Rattle.osal_script.specs.App.{Application}
use Rattle.osal_runs.specs.Segments.{Segment, has_segment, begun, segments_of}

-- whether an entry creates a task of the identifier
abbrev pub begins : Application → Entry → ℕ → Bool
begins app entry id = has_segment (begun app entry) id

-- an entry, where it is of the identifier
abbrev pub if_of : ℕ → Entry → List Entry
if_of id entry = if entry.task == id then entry ∷ [] else []

-- the entries of the identifier among those behind the one that creates its task, up to the next one that does
abbrev pub span_of : Application → ℕ → List Entry → List Entry
span_of app id [] = []
span_of app id (entry ∷ entries) =
    if_of id entry ++ (if begins app entry id then [] else span_of app id entries)

-- a segment that has just begun, with the entries of its span
abbrev pub with_span : Application → List Entry → Segment → Segment
with_span app entries segment = record segment { entries = segment.entries ++ span_of app segment.id entries }

-- the segment of each creation, in order, each with its span
abbrev pub spans_of : Application → List Entry → List Segment
spans_of app [] = []
spans_of app (entry ∷ entries) = map (with_span app entries) (begun app entry) ++ spans_of app entries

-- the walk along a journal gives each creation its span
abbrev pub SegmentsAreSpans : Type 0
SegmentsAreSpans = (app : Application) (entries : List Entry) → segments_of app entries ≡ spans_of app entries
