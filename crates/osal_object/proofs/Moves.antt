-- Objects that change by moves alone keep what is held, and know an identifier again only after a wrap.
use Rattle.std.proofs.Common.{◌≡◌, ◌<◌, ◌-◌, ◌^◌, ℕ, Bool, true, false, cond, List, [], ◌∷◌, Option, Some, None, is_some, refl, ap, sym, subst, ◌∙◌, arith}
use Rattle.osal_object.specs.declared.waits.WaitRecord.{WaitRecord}
use Rattle.osal_idtable.specs.Table.{Active, active_at}
use Rattle.osal_object.specs.Waiting.{abandoned}
use Rattle.osal_object.specs.Objects.{ObjectsState}
use Rattle.osal_object.specs.Moves.{Change, End, Move, Changes, changed, after_changes, moved, after_moves, IsAllowed, AreAllowed, MayMove, MayMoveAll}
use Rattle.osal_object.specs.ObjectLaws.{HeldObjectsStay, NotActiveAgain}
use Rattle.osal_object.proofs.Activity.{Alike, changes_alike}
use Rattle.osal_object.specs.ObjectLaws.{holds_of}

-- a choice of two values that both hold
pub either : {A : Type 0} (P : A → Type 0) (test : Bool) (first second : A) → P first → P second → P (cond test first second)
either P true first second holds other = holds
either P false first second holds other = other

-- the wrap count rises where an identifier was not active, was, was not, and is active again
abbrev pub IsRise : Bool → Bool → Bool → Bool → ℕ → ℕ → Type 0
IsRise old start later new before after =
    old ≡ false
    → start ≡ true
    → later ≡ false
    → new ≡ true
    → before < 2 ^ 64 - 1
    → before < after

module _ {T W : Type 0} where
  -- a move that may be made leads from the old objects to the new
  pub record IsMove (old new : ObjectsState T W) : Type 0 where
    pub move : Move T W
    pub may : MayMove old move
    pub is : new ≡ moved old move

  -- moves that may be made lead from the old objects to the new
  pub record AreMoves (old new : ObjectsState T W) : Type 0 where
    pub moves : List (Move T W)
    pub may : MayMoveAll old moves
    pub are : new ≡ after_moves old moves

  -- changes that may be made lead from the old objects to the new
  pub record AreChanges (old new : ObjectsState T W) : Type 0 where
    pub made : List (Change T W)
    pub may : AreAllowed old made
    pub are : new ≡ after_changes old made

  -- they are one move
  pub by_changes : (old new : ObjectsState T W) → AreChanges old new → IsMove old new
  by_changes old new by = record { move = Changes by.made; may = by.may; is = by.are }

  -- no changes
  pub unchanged : (objects : ObjectsState T W) → AreChanges objects objects
  unchanged objects = record { made = []; may = tt; are = refl }

  -- one change
  pub one_change : (objects : ObjectsState T W) (change : Change T W) → IsAllowed objects change → AreChanges objects (changed objects change)
  one_change objects change may = record { made = change ∷ []; may = (may, tt); are = refl }

  -- changes make nothing active and remove nothing
  pub changes_leave : (old new : ObjectsState T W) → AreChanges old new → Alike old.table new.table
  changes_leave old new by = subst (λ (o : ObjectsState T W). Alike old.table o.table) (sym by.are) (changes_alike old by.made)

  -- nothing changes
  pub stays : (objects : ObjectsState T W) → IsMove objects objects
  stays objects = record { move = Changes []; may = tt; is = refl }

  -- one change
  pub changes : (objects : ObjectsState T W) (change : Change T W) → IsAllowed objects change → IsMove objects (changed objects change)
  changes objects change may = record { move = Changes (change ∷ []); may = (may, tt); is = refl }

  -- a wait that is given up ends, where there is one
  pub abandon_changes : (objects : ObjectsState T W) (task : ℕ) (found : Option (WaitRecord W)) → AreChanges objects (abandoned objects task found).1
  abandon_changes objects task None = unchanged objects
  abandon_changes objects task (Some wait) = one_change objects (End task) tt

  -- this is one move
  pub abandon_moves : (objects : ObjectsState T W) (task : ℕ) (found : Option (WaitRecord W)) → IsMove objects (abandoned objects task found).1
  abandon_moves objects task found = by_changes objects _ (abandon_changes objects task found)

  -- no moves
  pub none_moved : (objects : ObjectsState T W) → AreMoves objects objects
  none_moved objects = record { moves = []; may = tt; are = refl }

  -- a move before others
  pub first_moved : (old new later : ObjectsState T W) → IsMove old new → AreMoves new later → AreMoves old later
  first_moved old new later first rest = record {
    moves = first.move ∷ rest.moves;
    may = (first.may, subst (λ o. MayMoveAll o rest.moves) first.is rest.may);
    are = rest.are ∙ ap (λ o. after_moves o rest.moves) first.is;
  }

  -- whether an identifier is active
  abbrev pub is_there : ObjectsState T W → ℕ → Bool
  is_there objects id = is_some (active_at objects.table id)

  unheld_at : (held : HeldObjectsStay T W) (objects : ObjectsState T W) (move : Move T W) (id : ℕ) (found : Option (Active T)) → active_at objects.table id ≡ found → is_there (moved objects move) id ≡ false → holds_of found ≡ 0
  unheld_at held objects move id None is gone = refl
  unheld_at held objects move id (Some active) is gone = held objects move id active is gone

  -- what a move removes has no holds
  pub gone_unheld : HeldObjectsStay T W → (old new : ObjectsState T W) (id : ℕ) → IsMove old new → is_there new id ≡ false → holds_of (active_at old.table id) ≡ 0
  gone_unheld held old new id by gone =
      unheld_at held old by.move id (active_at old.table id) refl (sym (ap (λ o. is_there o id) by.is) ∙ gone)

  -- the wrap count of some objects rises so
  abbrev pub Rises : ℕ → ObjectsState T W → ObjectsState T W → ObjectsState T W → ObjectsState T W → Type 0
  Rises id old start later new =
      IsRise (is_there old id) (is_there start id) (is_there later id) (is_there new id) start.table.wraps new.table.wraps

  -- the wrap count rises between two moves that make an identifier active
  pub active_again : NotActiveAgain T W → (id : ℕ) (old start later new : ObjectsState T W) → IsMove old start → AreMoves start later → IsMove later new → Rises id old start later new
  active_again again id old start later new first between second none made gone made_again room =
      let at_later : later ≡ after_moves (moved old first.move) between.moves = between.are ∙ ap (λ o. after_moves o between.moves) first.is in
      let at_new : new ≡ moved (after_moves (moved old first.move) between.moves) second.move = second.is ∙ ap (λ o. moved o second.move) at_later in
      let same_start = ap (λ (o : ObjectsState T W). o.table.wraps) first.is in
      let same_new = ap (λ (o : ObjectsState T W). o.table.wraps) at_new in
      let less = again old first.move between.moves second.move id
      (record { before = none; after = sym (ap (λ o. is_there o id) first.is) ∙ made })
      (record { before = sym (ap (λ o. is_there o id) at_later) ∙ gone; after = sym (ap (λ o. is_there o id) at_new) ∙ made_again })
      (omega arith) in
      omega arith
