-- What a write to a slot makes of the table.
use Rattle.std.proofs.Common.{◌≡◌, ◌<◌, ◌≤◌, ◌⊎◌, ℕ, ◌+◌, ◌%◌, true, false, List, length, Option, Some, None, refl, sym, ap, subst, ◌∙◌, arith, length-set}
use Rattle.std.specs.List.{list_any}
use Rattle.std.specs.Ordering.{nat_cmp}
use Rattle.std.specs.FinMap as map
use Rattle.osal_base.specs.Identifier.{slot_of}
use Rattle.osal_idtable.specs.declared.slot.Slot.{Slot}
use Rattle.osal_idtable.specs.declared.slot.Slot.TheVariants as slot
use Rattle.osal_idtable.specs.Table.{Active}
use Rattle.osal_idtable.specs.Slots.{SlotsState, active_entry, reserved_entry, has_name, slot_at, written}
use Rattle.osal_idtable.specs.Sound.{IsHome, Placed, active_map, reserved_map, table_of, home_in, Sound}
use Rattle.osal_idtable.proofs.Placed.{IsOnly, placed_set, insert_set, remove_set, same_set}
use Rattle.osal_idtable.proofs.Lone.{lone_set}

within : (n m : ℕ) → 1 ≤ n → m % n < n
within n m some = omega arith

-- the new content may stand in the slot of the identifier: each name in it was there before, or nowhere
pub record Fits {T : Type 0} (table : SlotsState T) (id : ℕ) (content : Slot T) : Type 0 where
  pub active : IsOnly id (active_entry content)
  pub reserved : IsOnly id (reserved_entry content)
  pub named : (name : List ℕ) → (has_name name content ≡ true → has_name name (slot_at table id) ≡ true) ⊎ (list_any (has_name name) table.slots ≡ false)

home_of_only : {X : Type 0} (home : ℕ → ℕ) (id : ℕ) (o : Option (ℕ × X)) → IsOnly id o → IsHome home (0 + home id) o
home_of_only home id None only = tt
home_of_only home id (Some e) only = ap home only ∙ (let zero_first : home id ≡ 0 + home id = omega arith in zero_first)

module _ {T : Type 0} (table : SlotsState T) (id : ℕ) (content : Slot T) (sound : Sound table.slots) (fits : Fits table id content) where
  in_range : home_in table.slots id < length table.slots
  in_range = within (length table.slots) _ sound.some

  same_length : length (written table id content).slots ≡ length table.slots
  same_length = length-set table.slots (home_in table.slots id) content

  active_here : Placed (home_in table.slots) active_entry 0 (written table id content).slots
  active_here =
      placed_set (home_in table.slots) active_entry 0 (home_in table.slots id) content table.slots sound.active (home_of_only (home_in table.slots) id (active_entry content) fits.active)

  reserved_here : Placed (home_in table.slots) reserved_entry 0 (written table id content).slots
  reserved_here =
      placed_set (home_in table.slots) reserved_entry 0 (home_in table.slots id) content table.slots sound.reserved (home_of_only (home_in table.slots) id (reserved_entry content) fits.reserved)

  -- what always holds of the slots still does
  pub sound_written : Sound (written table id content).slots
  sound_written = record {
    some = (let old = sound.some in omega (arith, same_length));
    active = subst (λ n. Placed (λ q. slot_of q n) active_entry 0 (written table id content).slots) (sym same_length) active_here;
    reserved = subst (λ n. Placed (λ q. slot_of q n) reserved_entry 0 (written table id content).slots) (sym same_length) reserved_here;
    named = λ name. lone_set (has_name name) slot.Free (home_in table.slots id) content table.slots (fits.named name) (sound.named name);
  }

  pub active_insert : (a : Active T) → active_entry content ≡ Some (id, a) → IsOnly id (active_entry (slot_at table id)) → active_map (written table id content).slots ≡ map.insert (active_map table.slots) id a
  unfolding active_map
  active_insert a is only =
      insert_set (home_in table.slots) active_entry slot.Free refl id (home_in table.slots id) content a table.slots refl in_range sound.active active_here is only

  pub active_remove : active_entry content ≡ None → IsOnly id (active_entry (slot_at table id)) → active_map (written table id content).slots ≡ map.remove (active_map table.slots) id
  unfolding active_map
  active_remove is only =
      remove_set (home_in table.slots) active_entry slot.Free refl id (home_in table.slots id) content table.slots refl in_range sound.active active_here is only

  pub active_same : active_entry content ≡ active_entry (slot_at table id) → active_map (written table id content).slots ≡ active_map table.slots
  unfolding active_map
  active_same is =
      ap (λ es. map.from_entries es) (same_set active_entry slot.Free (home_in table.slots id) content table.slots is)

  pub reserved_insert : (name : Option (List ℕ)) → reserved_entry content ≡ Some (id, name) → IsOnly id (reserved_entry (slot_at table id)) → reserved_map (written table id content).slots ≡ map.insert (reserved_map table.slots) id name
  unfolding reserved_map
  reserved_insert name is only =
      insert_set (home_in table.slots) reserved_entry slot.Free refl id (home_in table.slots id) content name table.slots refl in_range sound.reserved reserved_here is only

  pub reserved_remove : reserved_entry content ≡ None → IsOnly id (reserved_entry (slot_at table id)) → reserved_map (written table id content).slots ≡ map.remove (reserved_map table.slots) id
  unfolding reserved_map
  reserved_remove is only =
      remove_set (home_in table.slots) reserved_entry slot.Free refl id (home_in table.slots id) content table.slots refl in_range sound.reserved reserved_here is only

  pub reserved_same : reserved_entry content ≡ reserved_entry (slot_at table id) → reserved_map (written table id content).slots ≡ reserved_map table.slots
  unfolding reserved_map
  reserved_same is =
      ap (λ es. map.from_entries es) (same_set reserved_entry slot.Free (home_in table.slots id) content table.slots is)

  -- the table of the slots as written, from what becomes of its maps
  pub table_written : {active : map.FinMap nat_cmp (Active T)} {reserved : map.FinMap nat_cmp (Option (List ℕ))} → active_map (written table id content).slots ≡ active → reserved_map (written table id content).slots ≡ reserved → table_of (written table id content) ≡ record (table_of table) { active = active; reserved = reserved }
  table_written is_active is_reserved = λ i. record {
    kind = table.kind;
    capacity = same_length i;
    active = is_active i;
    reserved = is_reserved i;
    last = table.last;
    wraps = table.wraps;
  }
