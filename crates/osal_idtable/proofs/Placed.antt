-- Entries that stand in their keys' slots: what the list of them says, read off one slot.
use Rattle.std.proofs.Common.{◌≡◌, ◌<◌, ℕ, zero, suc, ◌+◌, ◌==◌, ◌||◌, Bool, true, false, cond, eqb, List, [], ◌∷◌, length, get_or, set, Option, Some, None, is_some, refl, sym, ap, ◌∙◌, arith, inl, inr, get_or-set_same, get_or-set_other}
use Rattle.std.specs.List.{list_any}
use Rattle.std.specs.Ordering.{nat_cmp}
use Rattle.std.specs.Cmp.{nat_cmp_total}
use Rattle.std.specs.FinMap as map
use Rattle.std.proofs.lemmas.Bool.{cases_eq}
use Rattle.std.proofs.lemmas.Bool.Decides.{nat_tests}
use Rattle.std.proofs.lemmas.Option.{cond_some}
use Rattle.osal_idtable.specs.Slots.{value_at}
use Rattle.osal_idtable.specs.Sound.{kept, entries_in, IsHome, Placed}
use Rattle.osal_idtable.proofs.Keyed.{Distinct, ties, apart}

-- whether an entry is there and passes
abbrev pub passes : {E : Type 0} → (E → Bool) → Option E → Bool
passes test None = false
passes test (Some e) = test e

any_kept : {E : Type 0} (test : E → Bool) (o : Option E) (es : List E) → list_any test (kept o es) ≡ (passes test o || list_any test es)
any_kept test None es = refl
any_kept test (Some e) es = refl

-- a test of any entry, slot by slot
pub any_in : {S E : Type 0} (pick : S → Option E) (test : E → Bool) (slots : List S) → list_any test (entries_in pick slots) ≡ list_any (λ s. passes test (pick s)) slots
any_in pick test [] = refl
any_in pick test (s ∷ slots) = any_kept test (pick s) (entries_in pick slots) ∙ ap (λ b. passes test (pick s) || b) (any_in pick test slots)

module _ {X : Type 0} (home : ℕ → ℕ) where
  miss : (q slot : ℕ) (o : Option (ℕ × X)) (es : List (ℕ × X)) → IsHome home slot o → (home q ≡ slot → ⊥) → map.find nat_cmp q (kept o es) ≡ map.find nat_cmp q es
  miss q slot None es at ne = refl
  miss q slot (Some e) es at ne =
      ap (λ b. cond b (Some e.1) (map.find nat_cmp q es)) (ties q e.0 ∙ apart q e.0 (λ same. ne (ap home same ∙ at)))

  hit : (q : ℕ) (o : Option (ℕ × X)) (es : List (ℕ × X)) → map.find nat_cmp q es ≡ None → map.find nat_cmp q (kept o es) ≡ value_at q o
  hit q None es none = none
  hit q (Some e) es none =
      ap (λ b. cond b (Some e.1) (map.find nat_cmp q es)) (ties q e.0) ∙ ap (cond (eqb q e.0) (Some e.1)) none

  distinct_kept : (slot : ℕ) (o : Option (ℕ × X)) (es : List (ℕ × X)) → IsHome home slot o → ((q : ℕ) → home q < suc slot → map.find nat_cmp q es ≡ None) → Distinct es → Distinct (kept o es)
  distinct_kept slot None es at none d = d
  distinct_kept slot (Some e) es at none d = (none e.0 (omega arith), d)

  taken_kept : (slot : ℕ) (o : Option (ℕ × X)) → IsHome home slot o → (at : ℕ) → (slot ≡ at → ⊥) → passes (λ e. home e.0 == at) o ≡ false
  taken_kept slot None is at ne = refl
  taken_kept slot (Some e) is at ne = apart (home e.0) at (λ same. ne (sym is ∙ same))

  taken_here : (slot : ℕ) (o : Option (ℕ × X)) → IsHome home slot o → passes (λ e. home e.0 == slot) o ≡ is_some o
  taken_here slot None is = refl
  taken_here slot (Some e) is = grind (arith, nat_tests)

module _ {S X : Type 0} (home : ℕ → ℕ) (pick : S → Option (ℕ × X)) where
  below : (q slot : ℕ) (slots : List S) → Placed home pick slot slots → home q < slot → map.find nat_cmp q (entries_in pick slots) ≡ None
  below q slot [] placed less = refl
  below q slot (s ∷ slots) placed less =
      miss home q slot (pick s) (entries_in pick slots) placed.0 (λ e. omega arith) ∙ below q (suc slot) slots placed.1 (omega arith)

  -- no key stands twice
  pub distinct : (slot : ℕ) (slots : List S) → Placed home pick slot slots → Distinct (entries_in pick slots)
  distinct slot [] placed = tt
  distinct slot (s ∷ slots) placed =
      distinct_kept home slot (pick s) (entries_in pick slots) placed.0 (λ q less. below q (suc slot) slots placed.1 less) (distinct (suc slot) slots placed.1)

  found : (d : S) → pick d ≡ None → (q slot i : ℕ) (slots : List S) → Placed home pick slot slots → home q ≡ slot + i → map.find nat_cmp q (entries_in pick slots) ≡ value_at q (pick (get_or slots i d))
  found d none q slot i [] placed at = sym (ap (value_at q) none)
  found d none q slot zero (s ∷ slots) placed at =
      hit home q (pick s) (entries_in pick slots) (below q (suc slot) slots placed.1 (omega arith))
  found d none q slot (suc i) (s ∷ slots) placed at =
      miss home q slot (pick s) (entries_in pick slots) placed.0 (λ e. omega arith) ∙ found d none q (suc slot) i slots placed.1 (omega arith)

  -- a look-up is the look-up in the key's slot
  pub get_placed : (d : S) → pick d ≡ None → (q : ℕ) (slots : List S) → Placed home pick 0 slots → map.get (map.from_entries {R = nat_cmp} (entries_in pick slots)) q ≡ value_at q (pick (get_or slots (home q) d))
  get_placed d none q slots placed =
      map.get-from_entries nat_cmp_total (entries_in pick slots) q ∙ found d none q 0 (home q) slots placed (omega arith)

  taken_below : (at slot : ℕ) (slots : List S) → Placed home pick slot slots → at < slot → list_any (λ s. passes (λ e. home e.0 == at) (pick s)) slots ≡ false
  taken_below at slot [] placed less = refl
  taken_below at slot (s ∷ slots) placed less =
      ap (λ b. b || list_any (λ s. passes (λ e. home e.0 == at) (pick s)) slots) (taken_kept home slot (pick s) placed.0 at (λ e. omega arith)) ∙ taken_below at (suc slot) slots placed.1 (omega arith)

  or_false : (b : Bool) → (b || false) ≡ b
  or_false true = refl
  or_false false = refl

  taken_at : (d : S) → pick d ≡ None → (at slot i : ℕ) (slots : List S) → Placed home pick slot slots → at ≡ slot + i → list_any (λ s. passes (λ e. home e.0 == at) (pick s)) slots ≡ is_some (pick (get_or slots i d))
  taken_at d none at slot i [] placed is = sym (ap is_some none)
  taken_at d none at slot zero (s ∷ slots) placed is =
      let here : slot ≡ at = omega arith in
      ap (λ b. passes (λ e. home e.0 == at) (pick s) || b) (taken_below at (suc slot) slots placed.1 (omega arith))
      ∙ or_false (passes (λ e. home e.0 == at) (pick s))
      ∙ (rw (← here) (taken_here home slot (pick s) placed.0))
  taken_at d none at slot (suc i) (s ∷ slots) placed is =
      ap (λ b. b || list_any (λ s. passes (λ e. home e.0 == at) (pick s)) slots) (taken_kept home slot (pick s) placed.0 at (λ e. omega arith))
      ∙ taken_at d none at (suc slot) i slots placed.1 (omega arith)

  -- some key belongs into a slot where an entry stands in it
  pub taken : (d : S) → pick d ≡ None → (at : ℕ) (slots : List S) → Placed home pick 0 slots → list_any (λ e. home e.0 == at) (entries_in pick slots) ≡ is_some (pick (get_or slots at d))
  taken d none at slots placed =
      any_in pick (λ e. home e.0 == at) slots ∙ taken_at d none at 0 at slots placed (omega arith)

  -- a write of an entry into its key's slot keeps each in its own
  pub placed_set : (slot i : ℕ) (s : S) (slots : List S) → Placed home pick slot slots → IsHome home (slot + i) (pick s) → Placed home pick slot (set slots i s)
  placed_set slot i s [] placed at = tt
  placed_set slot zero s (old ∷ slots) placed at =
      let same : slot + 0 ≡ slot = omega arith in ((rw same at at), placed.1)
  placed_set slot (suc i) s (old ∷ slots) placed at =
      let same : slot + suc i ≡ suc slot + i = omega arith in (placed.0, placed_set (suc slot) i s slots placed.1 (rw same at at))

-- an entry of this key, or none
abbrev pub IsOnly : {X : Type 0} → ℕ → Option (ℕ × X) → Type 0
IsOnly id None = Unit {0}
IsOnly id (Some e) = e.0 ≡ id

nothing_else : {X : Type 0} (id q : ℕ) (o : Option (ℕ × X)) → IsOnly id o → (q ≡ id → ⊥) → value_at q o ≡ None
nothing_else id q None only ne = refl
nothing_else id q (Some e) only ne =
    ap (λ b. cond b (Some e.1) None) (apart q e.0 (λ same. ne (same ∙ only)))

pub itself : (n : ℕ) → eqb n n ≡ true
itself n = grind (arith, nat_tests)

-- what is found has the key
pub value_at_some : {X : Type 0} (id : ℕ) (o : Option (ℕ × X)) (v : X) → value_at id o ≡ Some v → o ≡ Some (id, v)
value_at_some id None v e = cc
value_at_some id (Some entry) v e =
    let parts = cond_some (eqb id entry.0) entry.1 v e in
    let same : id ≡ entry.0 = grind (arith, nat_tests) in
    ap Some (λ i. (sym same i, parts.1 i))

module _ {S X : Type 0} (home : ℕ → ℕ) (pick : S → Option (ℕ × X)) (d : S) (none : pick d ≡ None) where
  get_after : (id i : ℕ) (s : S) (o : Option X) (slots : List S) → home id ≡ i → i < length slots → Placed home pick 0 slots → Placed home pick 0 (set slots i s) → value_at id (pick s) ≡ o → IsOnly id (pick s) → IsOnly id (pick (get_or slots i d)) → (q : ℕ) → map.get (map.from_entries {R = nat_cmp} (entries_in pick (set slots i s))) q ≡ cond (eqb q id) o (map.get (map.from_entries {R = nat_cmp} (entries_in pick slots)) q)
  get_after id i s o slots at within old new is only_new only_old q =
      let before = get_placed home pick d none q slots old in
      let now = get_placed home pick d none q (set slots i s) new in
      elim (cases_eq q id) [
        | inl same ↦ rw (now, same, at, get_or-set_same slots i s d within, itself id) is
        | inr ne ↦ elim (cases_eq (home q) i) [
          | inl there ↦ rw (now, before, apart q id ne, there, get_or-set_same slots i s d within, nothing_else id q (pick s) only_new ne, nothing_else id q (pick (get_or slots i d)) only_old ne) refl
          | inr other ↦ rw (now, before, apart q id ne, get_or-set_other slots i (home q) s d other) refl
        ]
      ]

  -- an entry that is written into its slot is inserted
  pub insert_set : (id i : ℕ) (s : S) (v : X) (slots : List S) → home id ≡ i → i < length slots → Placed home pick 0 slots → Placed home pick 0 (set slots i s) → pick s ≡ Some (id, v) → IsOnly id (pick (get_or slots i d)) → map.from_entries {R = nat_cmp} (entries_in pick (set slots i s)) ≡ map.insert (map.from_entries {R = nat_cmp} (entries_in pick slots)) id v
  insert_set id i s v slots at within old new is only =
      let here : value_at id (pick s) ≡ Some v = rw (is, itself id) refl in
      let alone : IsOnly id (pick s) = rw is refl in
      map.same_map nat_cmp_total map.nat_cmp-IsAntisymmetric _ _ (λ q.
      get_after id i s (Some v) slots at within old new here alone only q
      ∙ ap (λ b. cond b (Some v) (map.get (map.from_entries {R = nat_cmp} (entries_in pick slots)) q)) (sym (ties q id))
      ∙ sym (map.get-insert nat_cmp_total (map.from_entries {R = nat_cmp} (entries_in pick slots)) id v q))

  -- an entry whose slot is cleared is removed
  pub remove_set : (id i : ℕ) (s : S) (slots : List S) → home id ≡ i → i < length slots → Placed home pick 0 slots → Placed home pick 0 (set slots i s) → pick s ≡ None → IsOnly id (pick (get_or slots i d)) → map.from_entries {R = nat_cmp} (entries_in pick (set slots i s)) ≡ map.remove (map.from_entries {R = nat_cmp} (entries_in pick slots)) id
  remove_set id i s slots at within old new is only =
      let here : value_at id (pick s) ≡ None = rw is refl in
      let alone : IsOnly id (pick s) = rw is tt in
      map.same_map nat_cmp_total map.nat_cmp-IsAntisymmetric _ _ (λ q.
      get_after id i s None slots at within old new here alone only q
      ∙ ap (λ b. cond b None (map.get (map.from_entries {R = nat_cmp} (entries_in pick slots)) q)) (sym (ties q id))
      ∙ sym (map.get-remove nat_cmp_total (map.from_entries {R = nat_cmp} (entries_in pick slots)) id q))

-- a write that changes no entry leaves the entries
pub same_set : {S E : Type 0} (pick : S → Option E) (d : S) (i : ℕ) (s : S) (slots : List S) → pick s ≡ pick (get_or slots i d) → entries_in pick (set slots i s) ≡ entries_in pick slots
same_set pick d i s [] is = refl
same_set pick d zero s (old ∷ slots) is = ap (λ o. kept o (entries_in pick slots)) is
same_set pick d (suc i) s (old ∷ slots) is = ap (kept (pick old)) (same_set pick d i s slots is)
