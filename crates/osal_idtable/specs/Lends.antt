-- What a table ends as, where a `&mut` to one of its objects is returned.
use Rattle.std.specs.Prelude.{ℕ, Result}
use Rattle.std.specs.Borrow.{Lends, LendsIfOk, Fml, RattleType, MutBor}
use Rattle.osal_idtable.specs.declared.slot.Slot.{Slot}
use Rattle.osal_idtable.specs.declared.table.IdFault.{IdFault}
use Rattle.osal_idtable.specs.contracts.slot.Slot as of_slot
use Rattle.osal_idtable.specs.contracts.slots.Slots as of_slots
use Rattle.osal_idtable.specs.contracts.table.Table as of_table
use Rattle.osal_idtable.specs.Table.{TableState, with_object}
use Rattle.osal_idtable.specs.Slots.{SlotsState, with_value}
use Rattle.osal_idtable.specs.SlotSteps.{slot_put}

module _ (T : RattleType) where
  -- once the borrow r ends, the slot has the last object written through it
  abbrev pub lends_value : MutBor (Slot T.Denot) → MutBor T.Denot → Fml
  lends_value s r = Lends (of_slot.the_row T) T s r (with_value s.now)

  -- the same of the slot of an identifier
  abbrev pub lends_under : MutBor (SlotsState T.Denot) → ℕ → MutBor T.Denot → Fml
  lends_under s id r = Lends (of_slots.the_row T) T s r (slot_put s.now id)

  -- the same of the object that an identifier names
  abbrev pub lends_object : MutBor (TableState T.Denot) → ℕ → MutBor T.Denot → Fml
  lends_object s id r = Lends (of_table.the_row T) T s r (with_object s.now id)

  -- the same where r is a reference, and at a fault the table stays as it is
  abbrev pub lends_at : MutBor (TableState T.Denot) → ℕ → Result (MutBor T.Denot) IdFault → Fml
  lends_at s id r = LendsIfOk (of_table.the_row T) T s r (with_object s.now id) s.now
