-- Which of the tables of the io part a call turns, whether it begins a wait, ends one or does neither.
use Rattle.std.proofs.Common.{◌≡◌, ℕ, Bool, false, [], ◌∷◌, None, is_some, refl, sym, ap, subst}
use Rattle.osal_base.specs.declared.time.Moment.{Moment}
use Rattle.osal_base.specs.declared.time.Timeout.{Timeout}
use Rattle.osal_idtable.specs.Table.{active_at}
use Rattle.osal_object.specs.Moves.{Create, Begin, End}
use Rattle.osal_object.specs.ObjectLaws.{IsCounted}
use Rattle.osal_object.specs.Objects.{ObjectsState, create_step}
use Rattle.osal_object.specs.Waits.{new_wait, wait_of, wait_fault}
use Rattle.osal_object.specs.Waiting.{end_wait}
use Rattle.osal_idtable.specs.Steps.{reserve_step}
use Rattle.osal_object.proofs.Activity.{create_grows}
use Rattle.osal_object.proofs.Balance.{AreBalanced, balanced_begun, balanced_ended}
use Rattle.osal_object.proofs.Counted.{holds_are_counted}
use Rattle.osal_object.proofs.Moves.{IsMove, changes}
use Rattle.osal_io.specs.declared.awaited.Awaited.{Awaited}
use Rattle.osal_io.specs.declared.part.Stream.{Stream}
use Rattle.osal_io.specs.Io.{IoState, Stepped}
use Rattle.osal_io.proofs.Awaits.{IsIoCall, Now, Begins, IsIoEnd, Refused, WaitsOn, Over}
use Rattle.osal_io.proofs.FileSteps.{OfSystems, OfDirectories}
use Rattle.osal_io.proofs.IoSteps.{IoTurns, OfStreams, OfFiles}
use Rattle.osal_io.proofs.Makes.{makes_none, makes_new, makes_move, makes_one, makes_balanced, move_one, then_balanced}
use Rattle.osal_io.proofs.Tried.{Grown, Same, New}

-- at most one of the three tables turns, by a move that suits the call, or the streams' waits change, beside which a stream
-- is added at most
pub data AnyTurns (holding : Bool) (old new : IoState) : Type 0 where
  Turned : IoTurns holding old new → AnyTurns holding old new
  Waited : IsMove old.streams new.streams → (IsCounted old.streams → AreBalanced old.streams new.streams) → new.files.systems ≡ old.files.systems → new.files.directories ≡ old.files.directories → AnyTurns holding old new

module _ (old : ObjectsState Stream Awaited) (task : ℕ) where
  -- streams that are the same or have a new one, and then the end of a wait, are one move
  ended_moves : (new : ObjectsState Stream Awaited) → Grown old new → IsMove old (end_wait new task)
  ended_moves new (Same same) = subst (λ o. IsMove old (end_wait o task)) (sym same) (changes old (End task) tt)
  ended_moves new (New made is) = record {
    move = Create None made (End task ∷ []);
    may = ((tt, tt), (tt, tt));
    is = ap (λ o. end_wait o task) is;
  }

  -- they leave the holds of callers
  ended_balanced : (new : ObjectsState Stream Awaited) → Grown old new → IsCounted old → AreBalanced old (end_wait new task)
  ended_balanced new (Same same) counted =
      subst (λ o. AreBalanced old (end_wait o task)) (sym same) (balanced_ended old counted task (wait_of old.waits task) refl)
  ended_balanced new (New made is) counted =
      let start = (create_step old None made).1 in
      let also = (holds_are_counted Stream Awaited).1 old (Create None made []) counted (tt, tt) in
      subst (λ o. AreBalanced old (end_wait o task)) (sym is)
      (then_balanced old start (end_wait start task) (create_grows old None made (reserve_step old.table None).0) (makes_balanced (makes_new old None made)) (balanced_ended start also task (wait_of start.waits task) refl))

module _ {holding : Bool} {io : IoState} {task : ℕ} {now : Moment} {wait : Timeout} {stepped : Stepped} where
  -- a call that ends no wait
  pub call_turns : IsIoCall holding io task now wait stepped → AnyTurns holding io stepped.1
  call_turns (Now step) = Turned step.turns
  call_turns (Begins what on may apart is) =
      let begun = new_wait task what on wait now in
      subst (λ (s : Stepped). AnyTurns holding io s.1) (sym is)
      (Waited (changes io.streams (Begin begun) apart) (λ counted. balanced_begun io.streams counted begun apart (wait_fault io.streams.waits task) refl) refl refl)

module _ {holding : Bool} {io : IoState} {task : ℕ} {stepped : Stepped} where
  -- the end of a wait
  pub end_turns : IsIoEnd io task stepped → AnyTurns holding io stepped.1
  end_turns (Refused none is) =
      subst (λ (s : Stepped). AnyTurns holding io s.1) (sym is) (Turned (OfStreams (makes_none refl) refl refl))
  end_turns (WaitsOn some is) =
      subst (λ (s : Stepped). AnyTurns holding io s.1) (sym is) (Turned (OfStreams (makes_none refl) refl refl))
  end_turns (Over some before answers grown systems directories is) =
      subst (λ (s : Stepped). AnyTurns holding io s.1) (sym is)
      (Waited (ended_moves io.streams task before.1.streams grown) (ended_balanced io.streams task before.1.streams grown) systems directories)

-- one move of each table
abbrev pub Moves : IoState → IoState → Type 0
Moves old new =
    IsMove old.streams new.streams
    × (IsMove old.files.systems new.files.systems × IsMove old.files.directories new.files.directories)

-- at most one identifier of the three tables becomes active or not active
abbrev pub TurnsOne : IoState → IoState → Type 0
TurnsOne old new =
    (at : ℕ)
    × ((q : ℕ) → (q ≡ at → ⊥) → (is_some (active_at new.streams.table q) ≡ is_some (active_at old.streams.table q)) × ((is_some (active_at new.files.systems.table q) ≡ is_some (active_at old.files.systems.table q)) × (is_some (active_at new.files.directories.table q) ≡ is_some (active_at old.files.directories.table q))))

-- the holds of what is active before and after are left in each table
abbrev pub HoldsStill : IoState → IoState → Type 0
HoldsStill old new =
    AreBalanced old.streams new.streams
    × (AreBalanced old.files.systems new.files.systems × AreBalanced old.files.directories new.files.directories)

-- objects that are the same make a move
same_moves : {T W : Type 0} {old new : ObjectsState T W} → new ≡ old → IsMove old new
same_moves same = makes_move (makes_none {holding = false} same)

-- and leave their holds
same_still : {T W : Type 0} {old new : ObjectsState T W} → new ≡ old → AreBalanced old new
same_still same = makes_balanced (makes_none same)

module _ {holding : Bool} {old new : IoState} where
  -- each table makes a move
  pub turns_move : AnyTurns holding old new → Moves old new
  turns_move (Turned (OfStreams streams systems directories)) = (makes_move streams, (same_moves systems, same_moves directories))
  turns_move (Turned (OfFiles streams (OfSystems systems directories))) = (same_moves streams, (makes_move systems, same_moves directories))
  turns_move (Turned (OfFiles streams (OfDirectories systems directories))) = (same_moves streams, (same_moves systems, makes_move directories))
  turns_move (Waited streams still systems directories) = (streams, (same_moves systems, same_moves directories))

  -- at most one identifier becomes active or not active
  pub turns_one : AnyTurns holding old new → TurnsOne old new
  turns_one (Turned (OfStreams streams systems directories)) =
      let one = makes_one streams in
      (one.0, λ q ne. (one.1 q ne, (ap (λ o. is_some (active_at o.table q)) systems, ap (λ o. is_some (active_at o.table q)) directories)))
  turns_one (Turned (OfFiles streams (OfSystems systems directories))) =
      let one = makes_one systems in
      (one.0, λ q ne. (ap (λ o. is_some (active_at o.table q)) streams, (one.1 q ne, ap (λ o. is_some (active_at o.table q)) directories)))
  turns_one (Turned (OfFiles streams (OfDirectories systems directories))) =
      let one = makes_one directories in
      (one.0, λ q ne. (ap (λ o. is_some (active_at o.table q)) streams, (ap (λ o. is_some (active_at o.table q)) systems, one.1 q ne)))
  turns_one (Waited streams still systems directories) =
      let one = move_one streams in
      (one.0, λ q ne. (one.1 q ne, (ap (λ o. is_some (active_at o.table q)) systems, ap (λ o. is_some (active_at o.table q)) directories)))

-- a call that neither holds nor releases leaves the holds
pub turns_still : {old new : IoState} → AnyTurns false old new → IsCounted old.streams → HoldsStill old new
turns_still (Turned (OfStreams streams systems directories)) counted = (makes_balanced streams, (same_still systems, same_still directories))
turns_still (Turned (OfFiles streams (OfSystems systems directories))) counted = (same_still streams, (makes_balanced systems, same_still directories))
turns_still (Turned (OfFiles streams (OfDirectories systems directories))) counted = (same_still streams, (same_still systems, makes_balanced directories))
turns_still (Waited streams still systems directories) counted = (still counted, (same_still systems, same_still directories))
