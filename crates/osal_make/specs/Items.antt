-- The items of the bodies that are made.
use Rattle.std.specs.Prelude.{◌+◌, ◌++◌, List, [], ◌∷◌, ℕ, Some, None, map, codes}
use Rattle.osal_base.specs.declared.status.Status.{Status}
use Rattle.osal_base.specs.declared.status.Status.TheVariants as status
use Rattle.osal_base.specs.declared.time.Timeout.TheVariants as timeout
use Rattle.osal_base.specs.Status.{number_of}
use Rattle.osal_call.specs.declared.word.text.NameWord.TheVariants as name_word
use Rattle.osal_call.specs.declared.word.object.ObjectWord.TheVariants as object
use Rattle.osal_call.specs.declared.word.pair.ValueWord.TheVariants as value_word
use Rattle.osal_call.specs.declared.word.pair.WaitWord.TheVariants as wait_word
use Rattle.osal_line.specs.declared.expectation.Value.TheVariants as value
use Rattle.osal_line.specs.declared.line.ScriptCall.{ScriptCall}
use Rattle.osal_line.specs.declared.line.ScriptCall.TheVariants as script
use Rattle.osal_script.specs.declared.item.Item.{Item}
use Rattle.osal_script.specs.declared.item.Item.TheVariants as item
use Rattle.osal_make.specs.MakeText.{workers, worker_name, queue_name}

-- a call line of that number, which expects nothing
abbrev pub call_line : ℕ → ScriptCall → Item
call_line number call = item.Call (record { number = number; call = call; expect = None })

-- one that expects a status
abbrev pub status_line : ℕ → ScriptCall → Status → Item
status_line number call wanted =
    item.Call (record { number = number; call = call; expect = Some (record { code = number_of wanted; value = None }) })

-- one that expects success and a number
abbrev pub number_line : ℕ → ScriptCall → ℕ → Item
number_line number call wanted =
    item.Call (record {
      number = number;
      call = call;
      expect = Some (record { code = number_of status.Success; value = Some (value.Number wanted) });
    })

-- the creation of the semaphore that the workers give: the header and the line that begins the body stand before it
abbrev pub semaphore_item : Item
semaphore_item = call_line 3 (script.Value value_word.CountSemCreate 0 (codes "done") 0)

-- the creation of a worker: three lines stand before that of the first worker
abbrev pub creation_item : ℕ → Item
creation_item k = call_line (k + 3) (script.TaskCreate 1 (worker_name k) k 1024 100)

-- the waits of the first body for so many workers
abbrev pub waiting_items : ℕ → List Item
waiting_items n =
    item.Repeat n
    ∷ status_line (n + 5) (script.Wait wait_word.CountSemTake 0 timeout.Pend) status.Success
    ∷ item.End
    ∷ number_line (n + 7) (script.Object object.CountSemInfo 0) 0
    ∷ []

-- the items of the first body
abbrev pub main_items : ℕ → List Item
main_items n = semaphore_item ∷ map creation_item (workers n) ++ waiting_items n

-- the items of a worker's body, whose first call has that line
abbrev pub worker_items : ℕ → ℕ → List Item
worker_items first k =
    status_line first (script.QueueCreate 0 (queue_name k) 10 8) status.Success
    ∷ item.Repeat 1000
    ∷ call_line (first + 2) (script.QueuePut 0 (worker_name k))
    ∷ call_line (first + 3) (script.QueueGet 0 8 timeout.Check)
    ∷ item.End
    ∷ status_line (first + 5) (script.QueueGet 0 8 timeout.Check) status.QueueEmpty
    ∷ call_line (first + 6) (script.Name name_word.CountSemFind 1 (codes "done"))
    ∷ status_line (first + 7) (script.Object object.CountSemGive 1) status.Success
    ∷ []
