-- What is known of a step of the io part that does not wait: which of its tables it may turn.
use Rattle.std.proofs.Common.{◌≡◌, ℕ, Bool, true, false, List, [], None, Result, Ok, Err, refl}
use Rattle.std.proofs.lemmas.Bool.{false_from_ne_true, both_ways}
use Rattle.osal_base.specs.declared.status.Status.{Status}
use Rattle.osal_base.specs.declared.time.Timeout.{Timeout}
use Rattle.osal_base.specs.declared.time.Timeout.TheVariants as timeout
use Rattle.osal_base.specs.Reply.{Replied, refusal, is_waits}
use Rattle.osal_idtable.specs.declared.table.IdFault.{IdFault}
use Rattle.osal_idtable.specs.Steps.{take_out, unheld}
use Rattle.osal_idtable.specs.Faults.{answered}
use Rattle.osal_object.specs.Moves.{Create}
use Rattle.osal_object.specs.Objects.{ObjectsState}
use Rattle.osal_object.proofs.Moves.{either}
use Rattle.osal_object.proofs.Refusals.{Leaves, same, fails, within}
use Rattle.osal_file.specs.Files.{FilesState}
use Rattle.osal_io.specs.declared.awaited.Awaited.{Awaited}
use Rattle.osal_io.specs.declared.part.Stream.{Stream}
use Rattle.osal_io.specs.declared.part.Stream.TheVariants as stream
use Rattle.osal_io.specs.Io.{IoState, Stepped, in_files, stream_at, closed, closed_where, close, is_of_stream, hold, release}
use Rattle.osal_io.proofs.Below.{below, hold_answers, release_answers, hold_leaves, release_leaves}
use Rattle.osal_io.proofs.Makes.{Makes, makes_none, makes_less, makes_held, makes_released}
use Rattle.osal_io.proofs.FileSteps.{IsBeside, IsKnown, Turns, beside_known}
use Rattle.osal_io.proofs.Held as held
use Rattle.osal_io.proofs.Tried.{Grown, Same, New, IsTried}

-- at most one of the three tables turns, and by a move that suits the call
pub data IoTurns (holding : Bool) (old new : IoState) : Type 0 where
  OfStreams : Makes holding old.streams new.streams → new.files.systems ≡ old.files.systems → new.files.directories ≡ old.files.directories → IoTurns holding old new
  OfFiles : new.streams ≡ old.streams → Turns holding old.files new.files → IoTurns holding old new

-- a step turns at most one table; it does not wait, and leaves the part where it answers a code below 0
pub record IsIoStep (holding : Bool) (io : IoState) (stepped : Stepped) : Type 0 where
  pub turns : IoTurns holding io stepped.1
  pub keeps : Leaves below io stepped
  pub answers : is_waits stepped.0.answer ≡ false

-- streams that are the same or have a new one make a move
grown_makes : {holding : Bool} {old new : ObjectsState Stream Awaited} → Grown old new → Makes holding old new
grown_makes (Same alike) = makes_none alike
grown_makes (New made is) = record { move = Create None made []; suits = tt; is = is }

module _ {holding : Bool} {io : IoState} where
  -- a step of the files
  pub files_step : {stepped : Replied × FilesState} → IsKnown holding io.files stepped → IsIoStep holding io (in_files io stepped)
  files_step known = record {
    turns = OfFiles refl known.turns;
    keeps = within (λ files. record io { files = files }) known.keeps;
    answers = known.answers;
  }

  -- one that leaves the tables of the files
  pub beside_step : {stepped : Replied × FilesState} → IsBeside io.files stepped → IsIoStep holding io (in_files io stepped)
  beside_step beside = files_step (beside_known beside)

  -- a refusal
  pub refused_step : (fault : Status) → IsIoStep holding io (refusal fault, io)
  refused_step fault = record {
    turns = OfStreams (makes_none refl) refl refl;
    keeps = same;
    answers = refl;
  }

  -- a step that might have had to wait and has not
  pub over_step : {wait : Timeout} {on : List ℕ} {stepped : Stepped} → IsTried io wait on stepped → is_waits stepped.0.answer ≡ false → IsIoStep holding io stepped
  over_step tried over = record {
    turns = OfStreams (grown_makes tried.streams) tried.systems tried.directories;
    keeps = tried.keeps;
    answers = over;
  }

  -- one that may not wait
  pub now_step : {on : List ℕ} {stepped : Stepped} → IsTried io timeout.Check on stepped → IsIoStep holding io stepped
  now_step {on} {stepped} tried =
      over_step tried (false_from_ne_true (is_waits stepped.0.answer) (λ waits. both_ways true (tried.waits waits).0 refl))

module _ (io : IoState) where
  closed_turns : (id : ℕ) (was : Stream) → IoTurns false io (closed io id was)
  closed_turns id stream.File = OfStreams (makes_less io.streams id) refl refl
  closed_turns id stream.Socket = OfStreams (makes_less io.streams id) refl refl

  taken_step : (id : ℕ) (r : Result Stream IdFault) → IsIoStep false io (answered (take_out io.streams.table id r).0, closed_where io id (take_out io.streams.table id r).0)
  taken_step id (Err fault) = refused_step _
  taken_step id (Ok one) =
      record { turns = closed_turns id one; keeps = fails refl; answers = refl }

  -- closing
  pub close_step : (id : ℕ) → IsIoStep false io (close io id)
  close_step id = taken_step id (unheld (stream_at io id))

  -- a hold
  pub hold_step : (id : ℕ) → IsIoStep true io (hold io id)
  hold_step id =
      either (IsIoStep true io) (is_of_stream id) _ _
      (record {
        turns = OfStreams (makes_held io.streams id) refl refl;
        keeps = within (λ streams. record io { streams = streams }) (hold_leaves io.streams id);
        answers = hold_answers io.streams id;
      })
      (files_step (held.hold_known io.files id))

  -- its end
  pub release_step : (id : ℕ) → IsIoStep true io (release io id)
  release_step id =
      either (IsIoStep true io) (is_of_stream id) _ _
      (record {
        turns = OfStreams (makes_released io.streams id) refl refl;
        keeps = within (λ streams. record io { streams = streams }) (release_leaves io.streams id);
        answers = release_answers io.streams id;
      })
      (files_step (held.release_known io.files id))
