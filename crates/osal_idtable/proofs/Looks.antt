-- Names, the next active identifier and the count of a table, read off its slots.
use Rattle.std.proofs.Common.{◌≡◌, ◌<◌, ℕ, zero, suc, ◌+◌, Bool, true, false, cond, List, [], ◌∷◌, length, get_or, find, count_by, Option, Some, None, IsSome, option_map, refl, ap, ◌∙◌, arith, inl, inr}
use Rattle.std.specs.Option.{option_or, MatchOption}
use Rattle.std.specs.List.{list_any}
use Rattle.std.specs.FinMap as map
use Rattle.std.proofs.lemmas.Bool.{or_parts, cases_lt, false≢true}
use Rattle.std.proofs.lemmas.List.Recursion.{is_count_by}
use Rattle.osal_base.specs.Identifier.{slot_of}
use Rattle.osal_idtable.specs.declared.slot.Slot.{Slot}
use Rattle.osal_idtable.specs.declared.slot.Slot.TheVariants as slot
use Rattle.osal_idtable.specs.Table.{Active, active_at, is_named}
use Rattle.osal_idtable.specs.Steps.{find_id}
use Rattle.osal_idtable.specs.Looks.{IsNextFrom}
use Rattle.osal_idtable.specs.Slots.{SlotsState, active_entry, value_at, has_name, is_live, live_id, first_named, FirstLive, NoneLive}
use Rattle.osal_idtable.specs.Sound.{entries_in, Placed, AtMostOne, active_map, table_of, home_in, Sound, IsSound}
use Rattle.osal_idtable.proofs.Keyed.{find_entries, len_entries}
use Rattle.osal_idtable.proofs.Placed.{distinct, itself}
use Rattle.osal_idtable.proofs.Seen.{active_seen}

module _ {T : Type 0} (name : List ℕ) where
  -- whether an entry has the name
  abbrev entry_named : ℕ × Active T → Bool
  entry_named e = is_named e.1.name name

  none_in : (slots : List (Slot T)) → list_any (has_name name) slots ≡ false → list_any entry_named (entries_in active_entry slots) ≡ false
  none_in [] none = refl
  none_in (slot.Free ∷ slots) none = none_in slots none
  none_in (slot.Reserved id other ∷ slots) none = none_in slots (or_parts (is_named other name) (list_any (has_name name) slots) none).1
  none_in (slot.Active id other holds object ∷ slots) none =
      let parts = or_parts (is_named other name) (list_any (has_name name) slots) none in
      rw (parts.0, none_in slots parts.1) refl

  lone_in : (slots : List (Slot T)) → AtMostOne (has_name name) slots → AtMostOne entry_named (entries_in active_entry slots)
  lone_in [] lone = tt
  lone_in (slot.Free ∷ slots) lone = lone_in slots lone.1
  lone_in (slot.Reserved id other ∷ slots) lone = lone_in slots lone.1
  lone_in (slot.Active id other holds object ∷ slots) lone = (λ t. none_in slots (lone.0 t), lone_in slots lone.1)

  first_or : (b : Bool) (e : ℕ × Active T) (es : List (ℕ × Active T)) → option_map (λ e. e.0) (cond b (Some e) (find entry_named es)) ≡ option_or (cond b (Some e.0) None) (option_map (λ e. e.0) (find entry_named es))
  first_or true e es = refl
  first_or false e es = refl

  first_in : (slots : List (Slot T)) → option_map (λ e. e.0) (find entry_named (entries_in active_entry slots)) ≡ first_named name slots
  first_in [] = refl
  first_in (slot.Free ∷ slots) = first_in slots
  first_in (slot.Reserved id other ∷ slots) = first_in slots
  first_in (slot.Active id other holds object ∷ slots) =
      first_or (is_named other name) (id, record { name = other; holds = holds; object = object }) (entries_in active_entry slots)
      ∙ ap (option_or (cond (is_named other name) (Some id) None)) (first_in slots)

live_more : {T : Type 0} (s : Slot T) (slots : List (Slot T)) → length (entries_in active_entry (s ∷ slots)) ≡ cond (is_live s) (1 + length (entries_in active_entry slots)) (length (entries_in active_entry slots))
live_more slot.Free slots = refl
live_more (slot.Reserved id name) slots = refl
live_more (slot.Active id name holds object) slots = omega arith

not_live : {T : Type 0} (id : ℕ) (s : Slot T) → live_id s ≡ None → value_at id (active_entry s) ≡ None
not_live id slot.Free none = refl
not_live id (slot.Reserved at name) none = refl
not_live id (slot.Active at name holds object) none = cc

live_some : {T : Type 0} (id : ℕ) (s : Slot T) → live_id s ≡ Some id → (a : Active T) × (active_entry s ≡ Some (id, a))
live_some id slot.Free some = cc
live_some id (slot.Reserved at name) some = cc
live_some id (slot.Active at name holds object) some =
    (record { name = name; holds = holds; object = object }, (let same : at ≡ id = cc in rw same refl))

home_at : {S X : Type 0} (home : ℕ → ℕ) (pick : S → Option (ℕ × X)) (d : S) (first i : ℕ) (e : ℕ × X) (slots : List S) → Placed home pick first slots → i < length slots → pick (get_or slots i d) ≡ Some e → home e.0 ≡ first + i
home_at home pick d first i e [] placed less is = absurd (omega arith)
home_at home pick d first zero e (s ∷ slots) placed less is =
    let here : home e.0 ≡ first = (rw is at placed.0) in omega arith
home_at home pick d first (suc i) e (s ∷ slots) placed less is =
    let later = home_at home pick d (suc first) i e slots placed.1 (omega arith) is in omega arith

no_some : {X : Type 0} (o : Option X) → o ≡ None → IsSome o → ⊥
no_some None none some = false≢true some
no_some (Some x) none some = cc

module _ {T : Type 0} (table : SlotsState T) where
  -- a name is found where a slot has it
  pub find_same : IsSound table → (name : List ℕ) → find_id (table_of table) name ≡ first_named name table.slots
  unfolding IsSound active_map
  find_same sound name =
      ap (option_map (λ e. e.0)) (find_entries (entry_named name) (entries_in active_entry table.slots) (distinct (home_in table.slots) active_entry 0 table.slots sound.active) (lone_in name table.slots (sound.named name)))
      ∙ first_in name table.slots

  -- there are as many active identifiers as slots that have one
  pub len_same : IsSound table → map.len (active_map table.slots) ≡ count_by is_live table.slots
  unfolding IsSound active_map
  len_same sound =
      len_entries (entries_in active_entry table.slots) (distinct (home_in table.slots) active_entry 0 table.slots sound.active)
      ∙ is_count_by (λ slots. length (entries_in active_entry slots)) is_live refl live_more table.slots

  in_range : Sound table.slots → (id : ℕ) → slot_of id (length table.slots) < length table.slots
  in_range sound id = let some = sound.some in omega arith

  later : (sound : IsSound table) (start : ℕ) → (r : Option ℕ) → MatchOption r (NoneLive table.slots start) (FirstLive table.slots start) → IsNextFrom (table_of table) start r
  unfolding IsSound
  later sound start None none = λ id some.
      elim (cases_lt (slot_of id (length table.slots)) start) [
        | inl less ↦ less
        | inr reached ↦ absurd (no_some (active_at (table_of table) id) (active_seen table sound id ∙ not_live id _ (none (slot_of id (length table.slots)) reached (in_range sound id))) some)
      ]
  later sound start (Some next) first =
      let live = live_some next _ first.live in
      let home : slot_of next (length table.slots) ≡ first.at = (let at = home_at (home_in table.slots) active_entry slot.Free 0 first.at (next, live.0) table.slots sound.active first.within live.1 in omega arith) in
      let found : active_at (table_of table) next ≡ Some live.0 = active_seen table sound next ∙ (rw (home, live.1, itself next) refl) in (
        (rw found refl),
        (let reached = first.reached in omega arith),
        λ id some reached.
            elim (cases_lt (slot_of id (length table.slots)) (slot_of next (length table.slots))) [
              | inl less ↦ absurd (no_some (active_at (table_of table) id) (active_seen table sound id ∙ not_live id _ (first.before (slot_of id (length table.slots)) reached (omega arith))) some)
              | inr above ↦ above
            ],
      )

  -- the first active slot has the next identifier
  pub next_same : IsSound table → (start : ℕ) → (r : Option ℕ) → MatchOption r (NoneLive table.slots start) (FirstLive table.slots start) → IsNextFrom (table_of table) start r
  next_same sound start r told = later sound start r told
