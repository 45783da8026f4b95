-- What the calls of a part do to its objects and waits: each is one of these moves.
use Rattle.std.specs.Prelude.{◌≡◌, ◌==◌, ℕ, List, [], ◌∷◌, Bool, true, false, Option, is_some}
use Rattle.std.specs.List.{list_any}
use Rattle.osal_object.specs.declared.waits.WaitRecord.{WaitRecord}
use Rattle.osal_idtable.specs.Table.{TableState, active_at}
use Rattle.osal_object.specs.Objects.{ObjectsState, with_value, create_step, delete_step, hold_call_step, release_call_step}
use Rattle.osal_object.specs.Waiting.{begin_step, end_wait, release_waits}

-- a change that neither makes an object nor removes one
pub data Change (T W : Type 0) : Type 0 where
  Put : ℕ → T → Change T W
  Hold : ℕ → Change T W
  Release : ℕ → Change T W
  Begin : WaitRecord W → Change T W
  End : ℕ → Change T W
  Mark : (WaitRecord W → Bool) → Change T W

-- what one call does: it makes an object, and then makes some changes; removes one; or makes some changes
pub data Move (T W : Type 0) : Type 0 where
  Create : Option (List ℕ) → T → List (Change T W) → Move T W
  Remove : ℕ → Move T W
  Changes : List (Change T W) → Move T W

module _ {T : Type 0} where
  -- each of the identifiers is active, and none stands twice
  abbrev pub AreApart : TableState T → List ℕ → Type 0
  AreApart table [] = Unit {0}
  AreApart table (id ∷ ids) =
      (is_some (active_at table id) ≡ true) × (list_any (λ other. other == id) ids ≡ false) × AreApart table ids

module _ {T W : Type 0} where
  -- the objects and waits after a change
  abbrev pub changed : ObjectsState T W → Change T W → ObjectsState T W
  changed objects (Put id object) = with_value objects id object
  changed objects (Hold id) = (hold_call_step objects id).1
  changed objects (Release id) = (release_call_step objects id).1
  changed objects (Begin wait) = (begin_step objects wait).1
  changed objects (End task) = end_wait objects task
  changed objects (Mark test) = release_waits objects test

  -- the same after some changes, in order
  abbrev pub after_changes : ObjectsState T W → List (Change T W) → ObjectsState T W
  after_changes objects [] = objects
  after_changes objects (change ∷ changes) = after_changes (changed objects change) changes

  -- the same after a move
  abbrev pub moved : ObjectsState T W → Move T W → ObjectsState T W
  moved objects (Create name object changes) = after_changes (create_step objects name object).1 changes
  moved objects (Remove id) = (delete_step objects id).1
  moved objects (Changes changes) = after_changes objects changes

  -- the same after some moves, in order
  abbrev pub after_moves : ObjectsState T W → List (Move T W) → ObjectsState T W
  after_moves objects [] = objects
  after_moves objects (move ∷ moves) = after_moves (moved objects move) moves

  -- a wait may stand on active objects, on each once; any other change may be made
  abbrev pub IsAllowed : ObjectsState T W → Change T W → Type 0
  IsAllowed objects (Begin wait) = AreApart objects.table wait.on
  IsAllowed objects (Put id object) = Unit {0}
  IsAllowed objects (Hold id) = Unit {0}
  IsAllowed objects (Release id) = Unit {0}
  IsAllowed objects (End task) = Unit {0}
  IsAllowed objects (Mark test) = Unit {0}

  -- each of the changes may be made where it comes
  abbrev pub AreAllowed : ObjectsState T W → List (Change T W) → Type 0
  AreAllowed objects [] = Unit {0}
  AreAllowed objects (change ∷ changes) =
      IsAllowed objects change × AreAllowed (changed objects change) changes

  -- a change holds no object
  abbrev pub HoldsNone : Change T W → Type 0
  HoldsNone (Hold id) = ⊥
  HoldsNone (Begin wait) = ⊥
  HoldsNone (Put id object) = Unit {0}
  HoldsNone (Release id) = Unit {0}
  HoldsNone (End task) = Unit {0}
  HoldsNone (Mark test) = Unit {0}

  -- none of the changes does
  abbrev pub HoldNone : List (Change T W) → Type 0
  HoldNone [] = Unit {0}
  HoldNone (change ∷ changes) = HoldsNone change × HoldNone changes

  -- a move may be made: a removal always, changes where each may, and a create where the changes may that hold nothing
  abbrev pub MayMove : ObjectsState T W → Move T W → Type 0
  MayMove objects (Create name object changes) =
      AreAllowed (create_step objects name object).1 changes × HoldNone changes
  MayMove objects (Remove id) = Unit {0}
  MayMove objects (Changes changes) = AreAllowed objects changes

  -- each of the moves may be made where it comes
  abbrev pub MayMoveAll : ObjectsState T W → List (Move T W) → Type 0
  MayMoveAll objects [] = Unit {0}
  MayMoveAll objects (move ∷ moves) = MayMove objects move × MayMoveAll (moved objects move) moves
