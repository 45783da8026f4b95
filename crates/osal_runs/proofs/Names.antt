-- The lines of a script name bodies of the application.
use Rattle.std.proofs.Common.{◌≡◌, ◌<◌, ◌+◌, ℕ, zero, suc, List, [], ◌∷◌, length, Some, slice_get, sym, ap, subst, ◌∙◌, arith}
use Rattle.std.proofs.Math.Path.{subst₂}
use Rattle.std.specs.List.{AllByRecursion}
use Rattle.std.proofs.lemmas.Bool.{false≢true}
use Rattle.osal_base.specs.Reply.{reply_of}
use Rattle.osal_base.specs.Text.{Text}
use Rattle.osal_call.specs.Call.{said}
use Rattle.osal_call.specs.declared.call.Call.TheVariants as call
use Rattle.osal_call.specs.declared.call.Entry.{Entry}
use Rattle.osal_line.specs.declared.line.ScriptCall.{ScriptCall}
use Rattle.osal_line.specs.declared.line.ScriptCall.TheVariants as script_call
use Rattle.osal_line.specs.declared.line.Line.{Line}
use Rattle.osal_line.specs.Between.{NamesBetween}
use Rattle.osal_line.specs.Calls.{call_of}
use Rattle.osal_script.specs.declared.item.Item.{Item}
use Rattle.osal_script.specs.declared.item.Item.TheVariants as item
use Rattle.osal_script.specs.Cost.{no_prices}
use Rattle.osal_script.specs.App.{ScriptBody, Application, lines_of, ItemNames, NamesLaterFrom, NamesLater}
use Rattle.osal_script.specs.Script.{Pending, Frames, ScriptState, start_of, line_call, after_entry}
use Rattle.osal_runs.specs.Segments.{Segment, script_in, joined}
use Rattle.osal_runs.specs.Linked.{no_script, newest_script, is_creation}
use Rattle.osal_runs.proofs.Segments.{reached_push, bodies_after, newest_all}
use Rattle.osal_runs.proofs.Joining.{all_joined}
use Rattle.osal_runs.proofs.Pending.{OfItem, lines_all, EachLine, OfPending, in_body_all, after_all}
use Rattle.osal_runs.proofs.MadeByLines.{line_made}

-- what holds of each holds of each in weaker form
pub all_weaker : {X : Type 0} (P Q : X → Type 0) (xs : List X) → ((x : X) → P x → Q x) → AllByRecursion P xs → AllByRecursion Q xs
all_weaker P Q [] weaker all = tt
all_weaker P Q (x ∷ xs) weaker all = (weaker x all.0, all_weaker P Q xs weaker all.1)

-- the names of a body's items are those of its call lines
pub item_names : (number count : ℕ) (i : Item) → ItemNames number count i → OfItem (λ line. NamesBetween number count line.call) i
item_names number count (item.Call line) names = names
item_names number count (item.Repeat times) names = tt
item_names number count item.End names = tt

-- each body names later ones alone, by its number
pub later_at : (number count : ℕ) (bodies : List ScriptBody) (i : ℕ) (body : ScriptBody) → NamesLaterFrom number count bodies → slice_get bodies i ≡ Some body → AllByRecursion (ItemNames (number + i) count) body.items
later_at number count [] i body later is = cc
later_at number count (first ∷ bodies) zero body later is =
    let same : first ≡ body = cc in
    let n : number + 0 ≡ number = omega arith in
    subst₂ (λ m (b : ScriptBody). AllByRecursion (ItemNames m count) b.items) (sym n) same later.0
later_at number count (first ∷ bodies) (suc i) body later is =
    let n : number + 1 + i ≡ number + suc i = omega arith in
    subst (λ m. AllByRecursion (ItemNames m count) body.items) n (later_at (number + 1) count bodies i body later.1 is)

-- a line that creates a task names one of so many bodies
abbrev pub NamesBody : ℕ → ScriptCall → Type 0
NamesBody count (script_call.TaskCreate register name body stack priority) = body < count
NamesBody count other = Unit {0}

between_body : (number count : ℕ) (made : ScriptCall) → NamesBetween number count made → NamesBody count made
between_body number count (script_call.TaskCreate register name body stack priority) names = names.1
between_body number count _ names = tt

-- a line names one of so many bodies
abbrev pub LineNames : ℕ → Line → Type 0
LineNames count line = NamesBody count line.call

-- each line of a body of an application names one of its bodies
body_names : (app : Application) → NamesLater app → EachLine (LineNames (length app.bodies)) app.bodies
body_names app later number body is =
    let count : ℕ = length app.bodies in
    all_weaker (λ (line : Line). NamesBetween (0 + number) count line.call) (LineNames count) (lines_of body) (λ line names. between_body (0 + number) count line.call names)
    (lines_all (λ (line : Line). NamesBetween (0 + number) count line.call) body
    (all_weaker (ItemNames (0 + number) count) (OfItem (λ line. NamesBetween (0 + number) count line.call)) body.items (item_names (0 + number) count) (later_at 0 count app.bodies number body later is)))

-- each line that is still to come in a script names one of so many bodies, and so does each line of its bodies
pub record NamesBodies (count : ℕ) (from : ScriptState) : Type 0 where
  pub pending : OfPending (LineNames count) from.pending
  pub bodies : EachLine (LineNames count) from.bodies

-- the lines of a body of an application name its bodies
pub start_names : (app : Application) (number : ℕ) (body : ScriptBody) → NamesLater app → slice_get app.bodies number ≡ Some body → NamesBodies (length app.bodies) (start_of app.bodies body)
start_names app number body later is = record {
  pending = in_body_all (LineNames (length app.bodies)) (lines_of body) (body_names app later number body is);
  bodies = body_names app later;
}

-- a script that does nothing names no body
no_names : (count : ℕ) → NamesBodies count no_script
no_names count = record { pending = tt; bodies = λ number body is. cc }

-- a script names bodies also behind a call
names_after : (count : ℕ) (from : ScriptState) (entry : Entry) → NamesBodies count from → NamesBodies count (after_entry from entry)
names_after count from entry names = record {
  pending = after_all (LineNames count) from.phase from entry.call (reply_of entry.reply) names.bodies names.pending;
  bodies = subst (EachLine (LineNames count)) (sym (bodies_after from entry)) names.bodies;
}

-- the scripts of segments name bodies also with one more entry
pub names_joined : (count : ℕ) (segments : List Segment) (entry : Entry) → AllByRecursion (λ (s : Segment). NamesBodies count (script_in s)) segments → AllByRecursion (λ (s : Segment). NamesBodies count (script_in s)) (joined segments entry)
names_joined count segments entry all =
    all_joined (λ (s : Segment). NamesBodies count (script_in s)) segments entry
    (λ segment names. subst (NamesBodies count) (sym (reached_push (start_of segment.bodies segment.body) segment.entries entry)) (names_after count (script_in segment) entry names)) all

-- the same of an identifier's newest script
pub names_newest : (count : ℕ) (segments : List Segment) (id : ℕ) → AllByRecursion (λ (s : Segment). NamesBodies count (script_in s)) segments → NamesBodies count (newest_script segments id)
names_newest count segments id all = newest_all (NamesBodies count) segments id (no_names count) all

-- a creation that a line makes names a body
named_by : (count : ℕ) (line : ScriptCall) (registers : List ℕ) (name : Text) (body stack priority : ℕ) → said (call.TaskCreate name body stack priority) ≡ call_of line registers → NamesBody count line → body < count
named_by count (script_call.TaskCreate register other number room level) registers name body stack priority is names =
    let same : body ≡ number = cc in rw same names
named_by count line registers name body stack priority is names =
    absurd (false≢true (sym (line_made no_prices line registers).creation ∙ sym (ap is_creation is)))

-- the same of the line that comes next
pub named_next : (count : ℕ) (pending : List Pending) (frames : Frames) (name : Text) (body stack priority : ℕ) → said (call.TaskCreate name body stack priority) ≡ line_call pending frames → OfPending (LineNames count) pending → body < count
named_next count [] frames name body stack priority is names = absurd (cc)
named_next count (next ∷ pending) frames name body stack priority is names = named_by count next.line.call _ name body stack priority is names.0
