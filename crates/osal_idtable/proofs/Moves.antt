-- The moves of a slot: what each makes of the table, and that the slots stay sound.
use Rattle.std.proofs.Common.{◌≡◌, ◌⊎◌, ℕ, true, false, List, Option, Some, None, refl, sym, ◌∙◌, inl, inr}
use Rattle.std.specs.List.{list_any}
use Rattle.std.specs.FinMap as map
use Rattle.std.specs.Str.{bytes_eq}
use Rattle.std.proofs.lemmas.Bool.{cases_Bool, false≢true}
use Rattle.std.proofs.lemmas.Slice.Eq.{bytes_eq-Decides}
use Rattle.osal_idtable.specs.declared.slot.Slot.TheVariants as slot
use Rattle.osal_idtable.specs.Table.{Active, is_named}
use Rattle.osal_idtable.specs.Slots.{SlotsState, has_name, is_used, slot_at, written}
use Rattle.osal_idtable.specs.Sound.{table_of, Sound}
use Rattle.osal_idtable.proofs.Changed.{Fits, sound_written, active_insert, active_remove, active_same, reserved_insert, reserved_remove, reserved_same, table_written}

module _ {T : Type 0} (table : SlotsState T) (id : ℕ) (sound : Sound table.slots) where
  -- nothing stands in the way of a free slot
  free_fits : Fits table id slot.Free
  free_fits = record { active = tt; reserved = tt; named = λ name. inl (λ e. absurd (false≢true e)) }

  -- a reserved identifier is given up
  pub give_up : (name : Option (List ℕ)) → slot_at table id ≡ slot.Reserved id name → (table_of (written table id slot.Free) ≡ record (table_of table) { reserved = map.remove (table_of table).reserved id }) × Sound (written table id slot.Free).slots
  give_up name was = (
    table_written table id slot.Free sound free_fits (active_same table id slot.Free sound free_fits (rw was refl)) (reserved_remove table id slot.Free sound free_fits refl (rw was refl)),
    sound_written table id slot.Free sound free_fits,
  )

  -- an active identifier is taken out
  pub take_away : (a : Active T) → slot_at table id ≡ slot.Active id a.name a.holds a.object → (table_of (written table id slot.Free) ≡ record (table_of table) { active = map.remove (table_of table).active id }) × Sound (written table id slot.Free).slots
  take_away a was = (
    table_written table id slot.Free sound free_fits (active_remove table id slot.Free sound free_fits refl (rw was refl)) (reserved_same table id slot.Free sound free_fits (rw was refl)),
    sound_written table id slot.Free sound free_fits,
  )

  -- a reserved identifier becomes active
  pub settle_down : (name : Option (List ℕ)) (object : T) → slot_at table id ≡ slot.Reserved id name → (table_of (written table id (slot.Active id name 0 object)) ≡ record (table_of table) { reserved = map.remove (table_of table).reserved id; active = map.insert (table_of table).active id (record { name = name; holds = 0; object = object }) }) × Sound (written table id (slot.Active id name 0 object)).slots
  settle_down name object was =
      let fits : Fits table id (slot.Active id name 0 object) = record { active = refl; reserved = tt; named = λ other. inl (λ e. rw was e) } in (
        table_written table id _ sound fits (active_insert table id _ sound fits (record { name = name; holds = 0; object = object }) refl (rw was tt)) (reserved_remove table id _ sound fits refl (rw was refl)),
        sound_written table id _ sound fits,
      )

  -- what stands under an active identifier changes, but for its name
  pub rewrite : (a : Active T) (holds : ℕ) (object : T) → slot_at table id ≡ slot.Active id a.name a.holds a.object → (table_of (written table id (slot.Active id a.name holds object)) ≡ record (table_of table) { active = map.insert (table_of table).active id (record { name = a.name; holds = holds; object = object }) }) × Sound (written table id (slot.Active id a.name holds object)).slots
  rewrite a holds object was =
      let fits : Fits table id (slot.Active id a.name holds object) = record { active = refl; reserved = tt; named = λ other. inl (λ e. rw was e) } in (
        table_written table id _ sound fits (active_insert table id _ sound fits (record { name = a.name; holds = holds; object = object }) refl (rw was refl)) (reserved_same table id _ sound fits (rw was refl)),
        sound_written table id _ sound fits,
      )

  -- an active identifier is reserved again
  pub set_back : (a : Active T) → slot_at table id ≡ slot.Active id a.name a.holds a.object → (table_of (written table id (slot.Reserved id a.name)) ≡ record (table_of table) { active = map.remove (table_of table).active id; reserved = map.insert (table_of table).reserved id a.name }) × Sound (written table id (slot.Reserved id a.name)).slots
  set_back a was =
      let fits : Fits table id (slot.Reserved id a.name) = record { active = tt; reserved = refl; named = λ other. inl (λ e. rw was e) } in (
        table_written table id _ sound fits (active_remove table id _ sound fits refl (rw was refl)) (reserved_insert table id _ sound fits a.name refl (rw was tt)),
        sound_written table id _ sound fits,
      )

  unused : (name : Option (List ℕ)) → is_used table name ≡ false → (other : List ℕ) → (is_named name other ≡ true → has_name other (slot_at table id) ≡ true) ⊎ (list_any (has_name other) table.slots ≡ false)
  unused None free other = inl (λ e. absurd (false≢true e))
  unused (Some name) free other =
      elim (cases_Bool (bytes_eq name other)) [
        | inl same ↦ inr (let is = (bytes_eq-Decides name other).0 same in rw is at free)
        | inr differs ↦ inl (λ e. absurd (false≢true (sym differs ∙ e)))
      ]

  -- a free slot gets a reserved identifier with a name that no slot has
  pub set_aside : (name : Option (List ℕ)) → slot_at table id ≡ slot.Free → is_used table name ≡ false → (table_of (written table id (slot.Reserved id name)) ≡ record (table_of table) { reserved = map.insert (table_of table).reserved id name }) × Sound (written table id (slot.Reserved id name)).slots
  set_aside name was free =
      let fits : Fits table id (slot.Reserved id name) = record { active = tt; reserved = refl; named = unused name free } in (
        table_written table id _ sound fits (active_same table id _ sound fits (rw was refl)) (reserved_insert table id _ sound fits name refl (rw was tt)),
        sound_written table id _ sound fits,
      )
