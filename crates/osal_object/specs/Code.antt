-- How objects and waits are stored, so that they can be the value of a struct.
use Rattle.std.specs.Prelude.{List, ℕ, Bool, Option, refl}
use Rattle.std.specs.Coded.{Coded, code_by, coded×, coded_ℕ, coded_bool, coded_list, coded_option}
use Rattle.osal_base.specs.declared.time.Moment.{Moment}
use Rattle.osal_idtable.specs.Code.{table_code}
use Rattle.osal_idtable.specs.Table.{TableState}
use Rattle.osal_object.specs.declared.waits.WaitRecord.{WaitRecord}
use Rattle.osal_object.specs.Objects.{ObjectsState}

-- a moment is stored as its number
abbrev pub moment_code : Coded Moment
moment_code = code_by ℕ coded_ℕ (λ m. m.ms) (λ n. record { ms = n }) (λ _. refl)

-- a wait is stored as the tuple of its fields
abbrev pub wait_code : {W : Type 0} → Coded W → Coded (WaitRecord W)
wait_code {W} code =
    code_by
    (ℕ × (W × (List ℕ × (Option Moment × Bool))))
    (coded× coded_ℕ (coded× code (coded× (coded_list coded_ℕ) (coded× (coded_option moment_code) coded_bool))))
    (λ w. (w.task, (w.what, (w.on, (w.deadline, w.released)))))
    (λ p. record {
      task = p.0;
      what = p.1.0;
      on = p.1.1.0;
      deadline = p.1.1.1.0;
      released = p.1.1.1.1;
    })
    (λ _. refl)

-- objects and waits are stored as the tuple of both
abbrev pub objects_code : {T W : Type 0} → Coded T → Coded W → Coded (ObjectsState T W)
objects_code {T} {W} object what =
    code_by
    (TableState T × (List (WaitRecord W) × ℕ))
    (coded× (table_code object) (coded× (coded_list (wait_code what)) coded_ℕ))
    (λ o. (o.table, (o.waits.records, o.waits.capacity)))
    (λ p. record { table = p.0; waits = record { records = p.1.0; capacity = p.1.1 } })
    (λ _. refl)
