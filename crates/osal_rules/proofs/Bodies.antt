-- A line that begins or ends a body or a repeat is read where it breaks no rule, and refused by the first that it breaks.
use Rattle.std.proofs.Common.{◌≡◌, ◌+◌, ◌^◌, ◌==◌, ◌||◌, ◌++◌, ◌∙◌, ℕ, List, [], ◌∷◌, Bool, true, false, cond, Option, Some, None, Result, Ok, Err, map, length, ltb, leb, bytes_eq, is_some, is_none, option_map, slice_get, refl, sym, ap, arith}
use Rattle.std.specs.List.{list_any}
use Rattle.std.proofs.lemmas.List.{length-map, map-append}
use Rattle.osal_line.specs.declared.kind.BodyKind.{BodyKind}
use Rattle.osal_line.specs.declared.kind.BodyKind.TheVariants as kind
use Rattle.osal_line.specs.Values.{is_body_name, number_below}
use Rattle.osal_price.specs.Handlers.{is_handler}
use Rattle.osal_script.specs.App.{ScriptBody}
use Rattle.osal_reading.specs.declared.fault.FaultKind.{FaultKind}
use Rattle.osal_reading.specs.declared.fault.FaultKind.TheVariants as fault
use Rattle.osal_reading.specs.Draft.{OpenBody, Reading}
use Rattle.osal_reading.specs.Blocks.{with_body, empty_body, begin_body, read_body, begin_repeat, repeat_in, read_repeat, end_repeat, finished, end_block, read_end}
use Rattle.osal_reading.specs.Blocks as blocks
use Rattle.osal_rules.specs.Before.{Open, Before, is_some_and}
use Rattle.osal_rules.specs.At.{name_in, number_in}
use Rattle.osal_rules.specs.Rules.{is_taken}
use Rattle.osal_rules.specs.After.{new_body, with_repeat, after_end}

-- an open body of a reading, by the count of its items
abbrev pub open_of : OpenBody → Open
open_of body =
    record { name = body.name; kind = body.kind; items = body.count; repeats = body.repeats; registers = body.registers }

-- what a reading has before a line
abbrev pub before_of : Reading → Before
before_of reading =
    record { header = reading.header; bodies = map (λ body. body.name) reading.bodies; open_body = option_map open_of reading.open_body }

-- what stands behind a line that is read, or the rule by which it is not
abbrev pub leaves : Result Reading FaultKind → Result Before FaultKind
leaves (Ok reading) = Ok (before_of reading)
leaves (Err kind) = Err kind

-- the same of a line that breaks this rule, or none
abbrev pub judged : Option FaultKind → Before → Result Before FaultKind
judged None after = Ok after
judged (Some kind) after = Err kind

-- one rule before the others, where both sides test it alike
pub rule_before : (kind : FaultKind) (read : Result Reading FaultKind) (others : Option FaultKind) (after : Before) (here there : Bool) → here ≡ there → leaves read ≡ judged others after → leaves (cond here (Err kind) read) ≡ judged (cond there (Some kind) others) after
rule_before kind read others after true there same rest =
    ap (λ (test : Bool). judged (cond test (Some kind) others) after) same
rule_before kind read others after false there same rest =
    rest ∙ ap (λ (test : Bool). judged (cond test (Some kind) others) after) same

any_map : {A B : Type 0} (test : B → Bool) (f : A → B) (list : List A) → list_any (λ a. test (f a)) list ≡ list_any test (map f list)
any_map test f [] = refl
any_map test f (a ∷ list) = ap (λ (rest : Bool). test (f a) || rest) (any_map test f list)

-- the names of the bodies that are done
abbrev pub names_of : Reading → List (List ℕ)
names_of reading = (before_of reading).bodies

-- the rule of its arguments, limits and body that a line breaks that begins a body
abbrev pub name_broken : Reading → List (List ℕ) → Option FaultKind
name_broken reading words =
    cond (is_none (name_in words)) (Some fault.Argument)
    (cond (leb 64 (length (names_of reading))) (Some fault.Many)
    (cond (is_some_and (is_taken (before_of reading)) (name_in words)) (Some fault.Body) None))

-- what stands behind it
abbrev pub after_name : Reading → BodyKind → List (List ℕ) → Before
after_name reading runs words = record (before_of reading) { open_body = option_map (new_body runs) (name_in words) }

-- a name that is one: the bodies are few, and it is new
good_name : (reading : Reading) (runs : BodyKind) (name : List ℕ) → leaves (cond (leb 64 (length reading.bodies)) (Err fault.Many) (cond (blocks.is_taken reading.bodies name) (Err fault.Body) (Ok (record reading { open_body = Some (empty_body runs name) })))) ≡ judged (cond (leb 64 (length (names_of reading))) (Some fault.Many) (cond (is_taken (before_of reading) name) (Some fault.Body) None)) (record (before_of reading) { open_body = Some (new_body runs name) })
good_name reading runs name =
    let next : Reading = record reading { open_body = Some (empty_body runs name) } in
    let many : leb 64 (length reading.bodies) ≡ leb 64 (length (names_of reading)) =
    ap (leb 64) (sym (length-map reading.bodies (λ body. body.name))) in
    let taken : blocks.is_taken reading.bodies name ≡ is_taken (before_of reading) name =
    any_map (λ other. bytes_eq other name) (λ (body : ScriptBody). body.name) reading.bodies in
    rule_before fault.Many _ _ _ (leb 64 (length reading.bodies)) _ many
    (rule_before fault.Body (Ok next) None (before_of next) (blocks.is_taken reading.bodies name) _ taken refl)

one_name : (reading : Reading) (runs : BodyKind) (name : List ℕ) (good : Bool) → leaves (cond good (cond (leb 64 (length reading.bodies)) (Err fault.Many) (cond (blocks.is_taken reading.bodies name) (Err fault.Body) (Ok (record reading { open_body = Some (empty_body runs name) })))) (Err fault.Argument)) ≡ judged (cond (is_none (cond good (Some name) None)) (Some fault.Argument) (cond (leb 64 (length (names_of reading))) (Some fault.Many) (cond (is_some_and (is_taken (before_of reading)) (cond good (Some name) None)) (Some fault.Body) None))) (record (before_of reading) { open_body = option_map (new_body runs) (cond good (Some name) None) })
one_name reading runs name true = good_name reading runs name
one_name reading runs name false = refl

-- a body begins with its name
begin_judged : (reading : Reading) (runs : BodyKind) (words : List (List ℕ)) → leaves (begin_body reading runs words) ≡ judged (name_broken reading words) (after_name reading runs words)
begin_judged reading runs [] = refl
begin_judged reading runs (name ∷ []) = one_name reading runs name (is_body_name name)
begin_judged reading runs (name ∷ another ∷ words) = refl

-- a line `task`
pub task_judged : (reading : Reading) (current : Option OpenBody) (words : List (List ℕ)) → leaves (read_body reading kind.Task current words) ≡ judged (cond (is_some (option_map open_of current)) (Some fault.Place) (name_broken reading words)) (after_name reading kind.Task words)
task_judged reading None words = begin_judged reading kind.Task words
task_judged reading (Some body) words = refl

-- a line `handler`
pub handler_judged : (reading : Reading) (current : Option OpenBody) (words : List (List ℕ)) → leaves (read_body reading kind.Handler current words) ≡ judged (cond (is_some (option_map open_of current) || (length (names_of reading) + cond (is_some (option_map open_of current)) 1 0 == 0)) (Some fault.Place) (name_broken reading words)) (after_name reading kind.Handler words)
handler_judged reading None words =
    let few : length reading.bodies ≡ length (names_of reading) + 0 =
    omega (arith, length-map reading.bodies (λ (body : ScriptBody). body.name)) in
    rule_before fault.Place _ _ _ (length reading.bodies == 0) _ (ap (λ (n : ℕ). n == 0) few) (begin_judged reading kind.Handler words)
handler_judged reading (Some body) words = refl

-- whether a repeat of so many times is one too many in its body
abbrev pub repeat_many : OpenBody → Option ℕ → Bool
repeat_many body times =
    is_some_and (λ times. ltb times 1 || ltb 100000 times) times || leb 4 body.repeats || leb 4096 body.count

with_body_judged : (reading : Reading) (many : Bool) (next : OpenBody) → leaves (with_body reading (cond many (Err fault.Many) (Ok next))) ≡ judged (cond many (Some fault.Many) None) (record (before_of reading) { open_body = Some (open_of next) })
with_body_judged reading true next = refl
with_body_judged reading false next = refl

-- the rule of its arguments and limits that a line `repeat` breaks
abbrev pub repeat_broken : OpenBody → Option ℕ → Option FaultKind
repeat_broken body times =
    cond (is_none times) (Some fault.Argument) (cond (repeat_many body times) (Some fault.Many) None)

times_judged : (reading : Reading) (body : OpenBody) (times : Option ℕ) → leaves (with_body reading (begin_repeat body times)) ≡ judged (repeat_broken body times) (record (before_of reading) { open_body = Some (with_repeat (open_of body)) })
times_judged reading body None = refl
times_judged reading body (Some times) = with_body_judged reading (repeat_many body (Some times)) _

repeat_in_judged : (reading : Reading) (body : OpenBody) (words : List (List ℕ)) → leaves (repeat_in reading body words) ≡ judged (repeat_broken body (number_in words)) (record (before_of reading) { open_body = Some (with_repeat (open_of body)) })
repeat_in_judged reading body [] = refl
repeat_in_judged reading body (times ∷ []) = times_judged reading body (number_below (2 ^ 32) times)
repeat_in_judged reading body (times ∷ another ∷ words) = refl

-- a line `repeat` in a body
pub repeat_judged : (reading : Reading) (body : OpenBody) (words : List (List ℕ)) → leaves (read_repeat reading (Some body) words) ≡ judged (cond (is_handler body.kind) (Some fault.Place) (repeat_broken body (number_in words))) (record (before_of reading) { open_body = Some (with_repeat (open_of body)) })
repeat_judged reading body words =
    rule_before fault.Place _ _ _ (is_handler body.kind) _ refl (repeat_in_judged reading body words)

block_judged : (reading : Reading) (body : OpenBody) (inside : Bool) → before_of (cond inside (record reading { open_body = Some (end_repeat body) }) (record reading { bodies = reading.bodies ++ finished body ∷ []; open_body = None })) ≡ cond inside (record (before_of reading) { open_body = Some (open_of (end_repeat body)) }) (record (before_of reading) { bodies = names_of reading ++ body.name ∷ []; open_body = None })
block_judged reading body true = refl
block_judged reading body false =
    let one_more : map (λ (body : ScriptBody). body.name) (reading.bodies ++ finished body ∷ []) ≡ names_of reading ++ body.name ∷ [] =
    map-append (λ (body : ScriptBody). body.name) reading.bodies (finished body ∷ []) in
    ap (λ (names : List (List ℕ)). record (before_of reading) { bodies = names; open_body = None }) one_more

-- a line `end` in a body
pub end_judged : (reading : Reading) (body : OpenBody) (words : List (List ℕ)) → leaves (read_end reading (Some body) words) ≡ judged (cond (is_some (slice_get words 0)) (Some fault.Argument) None) (after_end (before_of reading) (Some (open_of body)))
end_judged reading body [] = ap Ok (block_judged reading body (ltb 0 body.repeats))
end_judged reading body (another ∷ words) = refl
