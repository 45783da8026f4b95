-- The segments of a journal: each task that was created, with the entries that it made.
use Rattle.std.specs.Prelude.{◌==◌, ◌++◌, List, [], ◌∷◌, ℕ, Bool, Option, Some, None, slice_get, if◌then◌else◌}
use Rattle.std.specs.List.{list_any}
use Rattle.osal_call.specs.declared.call.Call.{Call}
use Rattle.osal_call.specs.declared.call.Call.TheVariants as call
use Rattle.osal_call.specs.declared.call.Entry.{Entry}
use Rattle.osal_script.specs.App.{Application, ScriptBody}
use Rattle.osal_script.specs.Script.{ScriptState, start_of, reached, is_success}

-- a task that an entry created, under this name, with this body, one of an application's; its entries are those of its
-- identifier behind that entry and before the next one that creates the same identifier
pub record Segment : Type 0 where
  pub id : ℕ
  pub name : List ℕ
  pub bodies : List ScriptBody
  pub body : ScriptBody
  pub entries : List Entry

-- how far the segment's script has come
abbrev pub script_in : Segment → ScriptState
script_in segment = reached (start_of segment.bodies segment.body) segment.entries

-- whether a segment is of the identifier
abbrev pub is_of : ℕ → Segment → Bool
is_of id segment = segment.id == id

-- whether some segment is of the identifier
abbrev pub has_segment : List Segment → ℕ → Bool
has_segment segments id = list_any (is_of id) segments

-- the entry joins the newest segment of its task
abbrev pub joined : List Segment → Entry → List Segment
joined [] entry = []
joined (segment ∷ segments) entry =
    if has_segment segments entry.task then segment ∷ joined segments entry
    else (if is_of entry.task segment
    then record segment { entries = segment.entries ++ entry ∷ [] } ∷ segments
    else segment ∷ segments)

-- the segment of a task that was created with one of an application's bodies
abbrev pub segment_with : ℕ → List ℕ → List ScriptBody → Option ScriptBody → List Segment
segment_with id name bodies None = []
segment_with id name bodies (Some body) =
    record { id = id; name = name; bodies = bodies; body = body; entries = [] } ∷ []

-- the segment that a call which succeeded begins
abbrev pub begun_by : Application → Call → ℕ → List Segment
begun_by app (call.TaskCreate name body stack priority) id =
    segment_with id name.bytes app.bodies (slice_get app.bodies body)
begun_by app other id = []

-- the segment that an entry begins, if it creates a task
abbrev pub begun : Application → Entry → List Segment
begun app entry = if is_success entry.reply.answer then begun_by app entry.call entry.reply.number else []

-- the segments with one more entry
abbrev pub recorded : Application → List Segment → Entry → List Segment
recorded app segments entry = joined segments entry ++ begun app entry

-- the segments after some more entries, in order
abbrev pub segments_from : Application → List Segment → List Entry → List Segment
segments_from app segments [] = segments
segments_from app segments (entry ∷ entries) = segments_from app (recorded app segments entry) entries

-- the segments of a journal, in the order in which their tasks were created
abbrev pub segments_of : Application → List Entry → List Segment
segments_of app entries = segments_from app [] entries
