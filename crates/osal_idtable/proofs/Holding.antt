-- Claims and holds: the step on the slots is the step on the table, and keeps the slots sound.
use Rattle.std.proofs.Common.{◌≡◌, ◌+◌, ◌-◌, ℕ, Bool, true, false, cond, Option, Some, None, nat_lt, IfOk, Result, Ok, arith, refl, sym, ap, ◌∙◌}
use Rattle.std.specs.FinMap as map
use Rattle.std.proofs.lemmas.Bool.Decides.{nat_tests}
use Rattle.osal_idtable.specs.declared.table.IdFault.{IdFault}
use Rattle.osal_idtable.specs.Table.{Active, TableState, Reserved, active_at, hold_limit}
use Rattle.osal_idtable.specs.Steps.{claimed, claim_step}
use Rattle.osal_idtable.specs.Holds.{held, hold_step, released, release_step}
use Rattle.osal_idtable.specs.Slots.{SlotsState}
use Rattle.osal_idtable.specs.SlotSteps.{active_under, slot_claimed, slot_claim, slot_held, slot_hold, slot_released, slot_release}
use Rattle.osal_idtable.specs.Sound.{table_of, Sound, IsSound}
use Rattle.osal_idtable.proofs.Seen.{active_seen}
use Rattle.osal_idtable.proofs.Moves.{rewrite, set_back}
use Rattle.osal_idtable.proofs.Steps.{seen, active_slot}

-- either branch of a step
pub either : {A : Type 0} (P : A → Type 0) (b : Bool) (x y : A) → P x → P y → P (cond b x y)
either P true x y p q = p
either P false x y p q = q

-- the branch that is taken, with what is known of it
both_either : {A B : Type 0} (f : A → B) (P : A → Type 0) (b : Bool) (x y : A) (u v : B) → (f x ≡ u) × P x → (f y ≡ v) × P y → (f (cond b x y) ≡ cond b u v) × P (cond b x y)
both_either f P true x y u v p q = p
both_either f P false x y u v p q = q

module _ {T : Type 0} (table : SlotsState T) (sound : IsSound table) where
  claimed_both : (id : ℕ) (o : Option (Active T)) → active_under table id ≡ o → (seen (slot_claimed table id o) ≡ claimed (table_of table) id o) × IsSound (slot_claimed table id o).1
  unfolding IsSound
  claimed_both id None is = (refl, sound)
  claimed_both id (Some a) is =
      let set = set_back table id sound a (active_slot table id a is) in
      both_either seen (λ p. Sound p.1.slots) (nat_lt 0 a.holds) _ _ _ _ (refl, sound)
      ((λ i. (Ok (record { id = id; name = a.name }, a.object), set.0 i)), set.1)

  pub claim_same : (id : ℕ) → seen (slot_claim table id) ≡ claim_step (table_of table) id
  claim_same id =
      (claimed_both id (active_under table id) refl).0 ∙ ap (λ o. claimed (table_of table) id o) (sym (active_seen table sound id))

  pub claim_sound : (id : ℕ) → IsSound (slot_claim table id).1
  claim_sound id = (claimed_both id (active_under table id) refl).1

  held_both : (id : ℕ) (o : Option (Active T)) → active_under table id ≡ o → (seen (slot_held table id o) ≡ held (table_of table) id o) × IsSound (slot_held table id o).1
  unfolding IsSound
  held_both id None is = (refl, sound)
  held_both id (Some a) is =
      let more = rewrite table id sound a (a.holds + 1) a.object (active_slot table id a is) in
      both_either seen (λ p. Sound p.1.slots) (nat_lt a.holds hold_limit) _ _ _ _ ((λ i. (Ok tt, more.0 i)), more.1) (refl, sound)

  pub hold_same : (id : ℕ) → seen (slot_hold table id) ≡ hold_step (table_of table) id
  hold_same id =
      (held_both id (active_under table id) refl).0 ∙ ap (λ o. held (table_of table) id o) (sym (active_seen table sound id))

  pub hold_sound : (id : ℕ) → IsSound (slot_hold table id).1
  hold_sound id = (held_both id (active_under table id) refl).1

  released_both : (id : ℕ) (o : Option (Active T)) → active_under table id ≡ o → (seen (slot_released table id o) ≡ released (table_of table) id o) × IsSound (slot_released table id o).1
  unfolding IsSound
  released_both id None is = (refl, sound)
  released_both id (Some a) is =
      let fewer = rewrite table id sound a (a.holds - 1) a.object (active_slot table id a is) in
      both_either seen (λ p. Sound p.1.slots) (nat_lt 0 a.holds) _ _ _ _ ((λ i. (Ok tt, fewer.0 i)), fewer.1) (refl, sound)

  pub release_same : (id : ℕ) → seen (slot_release table id) ≡ release_step (table_of table) id
  release_same id =
      (released_both id (active_under table id) refl).0 ∙ ap (λ o. released (table_of table) id o) (sym (active_seen table sound id))

  pub release_sound : (id : ℕ) → IsSound (slot_release table id).1
  release_sound id = (released_both id (active_under table id) refl).1

-- what a claim gives is reserved, by another name
pub claim_as : {T : Type 0} {p q : Result (Reserved × T) IdFault × TableState T} → p ≡ q → IfOk q.0 (λ pair. map.get q.1.reserved pair.0.id ≡ Some pair.0.name) → IfOk p.0 (λ pair. map.get p.1.reserved pair.0.id ≡ Some pair.0.name)
claim_as e given = rw e given

claimed_gives : {T : Type 0} (table : TableState T) (id : ℕ) (o : Option (Active T)) → IfOk (claimed table id o).0 (λ pair. map.get (claimed table id o).1.reserved pair.0.id ≡ Some pair.0.name)
claimed_gives table id None = tt
claimed_gives {T} table id (Some a) =
    let P : Result (Reserved × T) IdFault × TableState T → Type 0 = λ p. IfOk p.0 (λ pair. map.get p.1.reserved pair.0.id ≡ Some pair.0.name) in
    either P (nat_lt 0 a.holds) _ _ tt (grind (arith, map.gets, nat_tests))

-- what a claim gives is reserved
pub claim_gives : {T : Type 0} (table : TableState T) (id : ℕ) → IfOk (claim_step table id).0 (λ pair. map.get (claim_step table id).1.reserved pair.0.id ≡ Some pair.0.name)
claim_gives table id = claimed_gives table id (active_at table id)
