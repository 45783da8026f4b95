-- What a call of the io part does to the holds of a stream, of a directory and of a file system.
use Rattle.std.proofs.Common.{◌≡◌, ℕ, true, false, cond}
use Rattle.std.proofs.lemmas.Bool.{cond_both}
use Rattle.osal_base.specs.declared.time.Moment.{Moment}
use Rattle.osal_base.specs.Reply.{Replied}
use Rattle.osal_object.specs.Objects.{ObjectsState, hold_call_step, release_call_step}
use Rattle.osal_object.specs.ObjectLaws.{IsCounted}
use Rattle.osal_file.specs.declared.system.FileSystem.{FileSystem}
use Rattle.osal_file.specs.Held.{is_of_directory, in_directories, in_systems}
use Rattle.osal_io.specs.declared.awaited.Awaited.{Awaited}
use Rattle.osal_io.specs.declared.part.Stream.{Stream}
use Rattle.osal_io.specs.Io.{IoState, in_files, in_streams, is_of_stream}
use Rattle.osal_io.specs.Calls.{io_step}
use Rattle.osal_io.proofs.Known.{io_holds_still}
use Rattle.osal_call.specs.declared.call.Call.{Call}
use Rattle.osal_call.specs.declared.call.Call.TheVariants as call
use Rattle.osal_laws.proofs.Suits.{is_holding}
use Rattle.osal_laws.proofs.Shifts.{ShiftsBy, of_holding, differ, differ_too, quiet_shifts, others_hold, others_release, hold_shifts, release_shifts}

module _ (io : IoState) (counted : IsCounted io.streams) (task : ℕ) (now : Moment) (q : ℕ) where
  -- the holds of an identifier shift by what a call is and answers, in the table of its type
  pub record ShiftsIo (made : Call) (stepped : Replied × IoState) : Type 0 where
    pub stream : is_of_stream q ≡ true → ShiftsBy q made io.streams (stepped.0, stepped.1.streams)
    pub directory : is_of_stream q ≡ false → is_of_directory q ≡ true → ShiftsBy q made io.files.directories (stepped.0, stepped.1.files.directories)
    pub system : is_of_stream q ≡ false → is_of_directory q ≡ false → ShiftsBy q made io.files.systems (stepped.0, stepped.1.files.systems)

  quiet_step : (made : Call) → is_holding made ≡ false → ShiftsIo made (io_step io task now made)
  quiet_step made none =
      let still = io_holds_still io task now made none counted in
      let stepped = io_step io task now made in
      record {
        stream = λ own. quiet_shifts q made io.streams (stepped.0, stepped.1.streams) none still.0;
        directory = λ other own. quiet_shifts q made io.files.directories (stepped.0, stepped.1.files.directories) none still.1.1;
        system = λ other not. quiet_shifts q made io.files.systems (stepped.0, stepped.1.files.systems) none still.1.0;
      }

  -- a hold or a release, which shifts the holds of its own identifier and of no other
  io_held : (made : Call) (id : ℕ) (does : (T W : Type 0) → ObjectsState T W → Replied × ObjectsState T W) → ((T W : Type 0) (objects : ObjectsState T W) → ShiftsBy q made objects (does T W objects)) → ((T W : Type 0) (objects : ObjectsState T W) (reply : Replied) → (id ≡ q → ⊥) → ShiftsBy q made objects (reply, objects)) → ShiftsIo made (cond (is_of_stream id) (in_streams io (does Stream Awaited io.streams)) (in_files io (cond (is_of_directory id) (in_directories io.files (does (Unit {0}) (Unit {0}) io.files.directories)) (in_systems io.files (does FileSystem (Unit {0}) io.files.systems)))))
  io_held made id does shifts others =
      cond_both (is_of_stream id) _ _ (ShiftsIo made)
      (λ own.
      let reply = (does Stream Awaited io.streams).0 in
      record {
        stream = λ also. shifts Stream Awaited io.streams;
        directory = λ other also. others (Unit {0}) (Unit {0}) io.files.directories reply (differ is_of_stream id q own other);
        system = λ other not. others FileSystem (Unit {0}) io.files.systems reply (differ is_of_stream id q own other);
      })
      (λ no_stream. cond_both (is_of_directory id) _ _ (λ stepped. ShiftsIo made (in_files io stepped))
      (λ own.
      let reply = (does (Unit {0}) (Unit {0}) io.files.directories).0 in
      record {
        stream = λ stream. others Stream Awaited io.streams reply (differ_too is_of_stream id q no_stream stream);
        directory = λ other also. shifts (Unit {0}) (Unit {0}) io.files.directories;
        system = λ other not. others FileSystem (Unit {0}) io.files.systems reply (differ is_of_directory id q own not);
      })
      (λ no_directory.
      let reply = (does FileSystem (Unit {0}) io.files.systems).0 in
      record {
        stream = λ stream. others Stream Awaited io.streams reply (differ_too is_of_stream id q no_stream stream);
        directory = λ other directory. others (Unit {0}) (Unit {0}) io.files.directories reply (differ_too is_of_directory id q no_directory directory);
        system = λ other also. shifts FileSystem (Unit {0}) io.files.systems;
      }))

  io_hold : (id : ℕ) → ShiftsIo (call.Hold id) (io_step io task now (call.Hold id))
  io_hold id =
      io_held (call.Hold id) id (λ T W objects. hold_call_step objects id) (λ T W objects. hold_shifts objects q id) (λ T W objects. others_hold q objects id)

  io_release : (id : ℕ) → ShiftsIo (call.Release id) (io_step io task now (call.Release id))
  io_release id =
      io_held (call.Release id) id (λ T W objects. release_call_step objects id) (λ T W objects. release_shifts objects q id) (λ T W objects. others_release q objects id)

  -- each call of the part shifts them so
  pub io_shifts : (made : Call) → ShiftsIo made (io_step io task now made)
  io_shifts = of_holding (λ made. ShiftsIo made (io_step io task now made)) io_hold io_release quiet_step
