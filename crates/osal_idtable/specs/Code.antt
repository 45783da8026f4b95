-- How a table is stored, so that it can be the value of a struct.
use Rattle.std.specs.Prelude.{List, ℕ, Option, refl}
use Rattle.std.specs.Ordering.{nat_cmp}
use Rattle.std.specs.Coded.{Coded, code_by, coded×, coded_ℕ, coded_list, coded_option}
use Rattle.std.specs.FinMap as map
use Rattle.osal_idtable.specs.Table.{Active, TableState}

-- what stands under an active identifier is stored as the tuple of its fields
abbrev pub active_code : {T : Type 0} → Coded T → Coded (Active T)
active_code {T} code =
    code_by
    (Option (List ℕ) × (ℕ × T))
    (coded× (coded_option (coded_list coded_ℕ)) (coded× coded_ℕ code))
    (λ a. (a.name, (a.holds, a.object)))
    (λ p. record { name = p.0; holds = p.1.0; object = p.1.1 })
    (λ _. refl)

-- a table is stored as the tuple of its fields
abbrev pub table_code : {T : Type 0} → Coded T → Coded (TableState T)
table_code {T} code =
    code_by
    (ℕ × (ℕ × (map.FinMap nat_cmp (Active T) × (map.FinMap nat_cmp (Option (List ℕ)) × (ℕ × ℕ)))))
    (coded× coded_ℕ
    (coded× coded_ℕ
    (coded× (map.code coded_ℕ (active_code code))
    (coded× (map.code coded_ℕ (coded_option (coded_list coded_ℕ))) (coded× coded_ℕ coded_ℕ)))))
    (λ t. (t.kind, (t.capacity, (t.active, (t.reserved, (t.last, t.wraps))))))
    (λ p. record {
      kind = p.0;
      capacity = p.1.0;
      active = p.1.1.0;
      reserved = p.1.1.1.0;
      last = p.1.1.1.1.0;
      wraps = p.1.1.1.1.1;
    })
    (λ _. refl)
