-- The lines that begin and end bodies and repeats.
use Rattle.std.specs.Prelude.{◌^◌, ◌+◌, ◌-◌, ◌||◌, ◌&&◌, ◌==◌, ◌++◌, List, [], ◌∷◌, ℕ, Bool, Option, Some, None, Result, Ok, Err, length, nat_lt, nat_le, if◌then◌else◌}
use Rattle.std.specs.List.{list_any}
use Rattle.std.specs.Str.{bytes_eq}
use Rattle.osal_line.specs.declared.kind.BodyKind.{BodyKind}
use Rattle.osal_line.specs.Values.{is_body_name, number_below}
use Rattle.osal_line.specs.Registers.{no_registers}
use Rattle.osal_price.specs.Handlers.{is_handler}
use Rattle.osal_script.specs.declared.item.Item.TheVariants as item
use Rattle.osal_reading.specs.declared.fault.FaultKind.{FaultKind}
use Rattle.osal_reading.specs.declared.fault.FaultKind.TheVariants as fault
use Rattle.osal_script.specs.App.{ScriptBody}
use Rattle.osal_reading.specs.Draft.{OpenBody, Reading}

-- whether some body has the name
abbrev pub is_taken : List ScriptBody → List ℕ → Bool
is_taken bodies name = list_any (λ body. bytes_eq body.name name) bodies

-- a body without items
abbrev pub empty_body : BodyKind → List ℕ → OpenBody
empty_body kind name =
    record { name = name; kind = kind; items = []; count = 0; repeats = 0; registers = no_registers }

-- a body of that kind and name is open: its name is one, the bodies are at most 64, and no body has the name
abbrev pub begin_body : Reading → BodyKind → List (List ℕ) → Result Reading FaultKind
begin_body reading kind (name ∷ []) =
    if is_body_name name
    then (if nat_le 64 (length reading.bodies) then Err fault.Many
    else (if is_taken reading.bodies name then Err fault.Body
    else Ok (record reading { open_body = Some (empty_body kind name) })))
    else Err fault.Argument
begin_body reading kind words = Err fault.Argument

-- a line `task` or `handler`: no body may be open, and the first is a task
abbrev pub read_body : Reading → BodyKind → Option OpenBody → List (List ℕ) → Result Reading FaultKind
read_body reading kind (Some body) words = Err fault.Place
read_body reading kind None words =
    if is_handler kind && (length reading.bodies == 0) then Err fault.Place else begin_body reading kind words

-- the reading with what became of its open body
abbrev pub with_body : Reading → Result OpenBody FaultKind → Result Reading FaultKind
with_body reading (Ok body) = Ok (record reading { open_body = Some body })
with_body reading (Err kind) = Err kind

-- one more repeat is open: 1 to 100,000 times, at most four deep, and an item of its body
abbrev pub begin_repeat : OpenBody → Option ℕ → Result OpenBody FaultKind
begin_repeat body None = Err fault.Argument
begin_repeat body (Some times) =
    if nat_lt times 1 || nat_lt 100000 times || nat_le 4 body.repeats || nat_le 4096 body.count then Err fault.Many
    else Ok (record body {
      items = body.items ++ item.Repeat times ∷ [];
      count = body.count + 1;
      repeats = body.repeats + 1;
    })

-- the count of a repeat in a body
abbrev pub repeat_in : Reading → OpenBody → List (List ℕ) → Result Reading FaultKind
repeat_in reading body (times ∷ []) = with_body reading (begin_repeat body (number_below (2 ^ 32) times))
repeat_in reading body words = Err fault.Argument

-- a line `repeat` stands in a task's body, with its count
abbrev pub read_repeat : Reading → Option OpenBody → List (List ℕ) → Result Reading FaultKind
read_repeat reading None words = Err fault.Place
read_repeat reading (Some body) words =
    if is_handler body.kind then Err fault.Place else repeat_in reading body words

-- the innermost repeat is done, and its end is an item of its body
abbrev pub end_repeat : OpenBody → OpenBody
end_repeat body = record body { items = body.items ++ item.End ∷ []; repeats = body.repeats - 1 }

-- a body that is done
abbrev pub finished : OpenBody → ScriptBody
finished body = record { name = body.name; kind = body.kind; items = body.items }

-- the end of the innermost repeat, or of the body where none is open
abbrev pub end_block : Reading → OpenBody → Reading
end_block reading body =
    if nat_lt 0 body.repeats then record reading { open_body = Some (end_repeat body) }
    else record reading { bodies = reading.bodies ++ finished body ∷ []; open_body = None }

-- a line `end` stands in a body, alone
abbrev pub read_end : Reading → Option OpenBody → List (List ℕ) → Result Reading FaultKind
read_end reading None words = Err fault.Place
read_end reading (Some body) [] = Ok (end_block reading body)
read_end reading (Some body) (another ∷ words) = Err fault.Argument
