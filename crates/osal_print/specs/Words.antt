-- The words of a call line, each at its shortest.
use Rattle.std.specs.Prelude.{◌++◌, List, [], ◌∷◌, ℕ, Option, Some, None, codes}
use Rattle.std.specs.Fmt.{decimal, signed_decimal}
use Rattle.osal_journal.specs.Spelled.{wait_text, flags_text, access_text, whence_text, kind_text, ways_text, ready_text}
use Rattle.osal_line.specs.declared.expectation.Value.{Value}
use Rattle.osal_line.specs.declared.expectation.Value.TheVariants as value
use Rattle.osal_line.specs.declared.expectation.Expect.{Expect}
use Rattle.osal_line.specs.declared.line.Line.{Line}
use Rattle.osal_line.specs.declared.line.ScriptCall.{ScriptCall}
use Rattle.osal_line.specs.declared.line.ScriptCall.TheVariants as script
use Rattle.osal_line.specs.Calls.{call_name}
use Rattle.osal_print.specs.Shortest.{number_text, string_text, payload_words, register_text, set_text}

-- the arguments of a call, where bodies have these names
abbrev pub argument_words : (ℕ → List ℕ) → ScriptCall → List (List ℕ)
argument_words names (script.Object called id) = register_text id ∷ []
argument_words names (script.Name called register name) = register_text register ∷ string_text name ∷ []
argument_words names (script.Wait called id wait) = register_text id ∷ wait_text wait ∷ []
argument_words names (script.Value called register name value) =
    register_text register ∷ string_text name ∷ decimal value ∷ []
argument_words names (script.Number called id number) = register_text id ∷ decimal number ∷ []
argument_words names (script.Path called path) = string_text path ∷ []
argument_words names (script.Paths called path to) = string_text path ∷ string_text to ∷ []
argument_words names (script.Bare called) = []
argument_words names (script.TaskCreate register name body stack priority) =
    register_text register ∷ string_text name ∷ names body ∷ decimal stack ∷ decimal priority ∷ []
argument_words names script.TaskExit = []
argument_words names (script.TaskDelay ms) = decimal ms ∷ []
argument_words names (script.QueueCreate register name depth size) =
    register_text register ∷ string_text name ∷ decimal depth ∷ decimal size ∷ []
argument_words names (script.QueuePut id payload) = register_text id ∷ payload_words payload
argument_words names (script.QueueGet id n wait) = register_text id ∷ decimal n ∷ wait_text wait ∷ []
argument_words names (script.TimerAdd register name timebase handler) =
    register_text register ∷ string_text name ∷ register_text timebase ∷ names handler ∷ []
argument_words names (script.TimerSet id start interval) = register_text id ∷ decimal start ∷ decimal interval ∷ []
argument_words names (script.Mkfs device label blocks) = string_text device ∷ string_text label ∷ decimal blocks ∷ []
argument_words names (script.Open register path flags access) =
    register_text register ∷ string_text path ∷ flags_text flags ∷ access_text access ∷ []
argument_words names (script.Read id n wait) = register_text id ∷ decimal n ∷ wait_text wait ∷ []
argument_words names (script.Write id payload) = register_text id ∷ payload_words payload
argument_words names (script.Lseek id offset whence) =
    register_text id ∷ signed_decimal offset ∷ whence_text whence ∷ []
argument_words names (script.SocketOpen register kind) = register_text register ∷ kind_text kind ∷ []
argument_words names (script.SocketAccept register id wait) =
    register_text register ∷ register_text id ∷ wait_text wait ∷ []
argument_words names (script.SocketSend id payload port) =
    register_text id ∷ payload_words payload ++ decimal port ∷ []
argument_words names (script.SocketRecv id n wait) = register_text id ∷ decimal n ∷ wait_text wait ∷ []
argument_words names (script.SocketShutdown id how) = register_text id ∷ ways_text how ∷ []
argument_words names (script.SelectOne id mode wait) = register_text id ∷ ready_text mode ∷ wait_text wait ∷ []
argument_words names (script.SelectMulti reads writes wait) = set_text reads ∷ set_text writes ∷ wait_text wait ∷ []
argument_words names (script.ConsoleWrite payload) = payload_words payload

-- a value that is expected
abbrev pub value_words : Option Value → List (List ℕ)
value_words None = []
value_words (Some (value.Number number)) = number_text number ∷ []
value_words (Some (value.Text text)) = string_text text ∷ []

-- what is expected, behind the arrow: a code is always a number, which is no longer than a name
abbrev pub expectation_words : Option Expect → List (List ℕ)
expectation_words None = []
expectation_words (Some expect) = codes "->" ∷ signed_decimal expect.code ∷ value_words expect.value

-- a call line
abbrev pub call_words : (ℕ → List ℕ) → Line → List (List ℕ)
call_words names line = call_name line.call ∷ argument_words names line.call ++ expectation_words line.expect
