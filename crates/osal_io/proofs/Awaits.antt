-- What is known of a call of the io part that may begin a wait, and of the end of a wait.
use Rattle.std.proofs.Common.{◌≡◌, ℕ, Bool, true, false, List, [], ◌∷◌, Option, Some, None, is_some, refl, ap}
use Rattle.std.proofs.lemmas.Bool.{cond_both}
use Rattle.osal_base.specs.declared.status.Status.TheVariants as status
use Rattle.osal_base.specs.declared.time.Moment.{Moment}
use Rattle.osal_base.specs.declared.time.Timeout.{Timeout}
use Rattle.osal_base.specs.declared.time.Timeout.TheVariants as timeout
use Rattle.osal_base.specs.Reply.{refusal, success, waits, is_waits}
use Rattle.osal_base.specs.Time.{is_check}
use Rattle.osal_object.specs.declared.waits.WaitRecord.{WaitRecord}
use Rattle.osal_object.specs.Moves.{AreApart}
use Rattle.osal_object.specs.Waits.{new_wait, wait_of, is_due}
use Rattle.osal_object.specs.Waiting.{begin_step, abandoned}
use Rattle.osal_object.proofs.Moves.{either}
use Rattle.osal_io.specs.declared.awaited.Awaited.{Awaited}
use Rattle.osal_io.specs.declared.awaited.Awaited.TheVariants as awaited
use Rattle.osal_io.specs.Io.{IoState, Stepped, refused, in_streams, or_wait}
use Rattle.osal_io.specs.Ends.{again, without_wait, ended_as, ended, wait_end, wait_abandon}
use Rattle.osal_io.proofs.IoSteps.{IsIoStep, over_step}
use Rattle.osal_io.proofs.SelectSteps.{one_tries, multi_tries}
use Rattle.osal_io.proofs.StreamCalls.{read_tries, accept_tries, receive_tries}
use Rattle.osal_io.proofs.Tried.{Grown, Same, IsTried}

-- a call of a task that may wait so long does not wait, or begins a wait on active streams, on each once
pub data IsIoCall (holding : Bool) (io : IoState) (task : ℕ) (now : Moment) (wait : Timeout) (stepped : Stepped) : Type 0 where
  Now : IsIoStep holding io stepped → IsIoCall holding io task now wait stepped
  Begins : (what : Awaited) (on : List ℕ) → is_check wait ≡ false → AreApart io.streams.table on → stepped ≡ in_streams io (begin_step io.streams (new_wait task what on wait now)) → IsIoCall holding io task now wait stepped

-- the end of a task's wait is refused where none is open, waits on, or is over, once a stream was added at most
pub data IsIoEnd (io : IoState) (task : ℕ) (stepped : Stepped) : Type 0 where
  Refused : is_some (wait_of io.streams.waits task) ≡ false → stepped ≡ refused io status.ErrIncorrectObjState → IsIoEnd io task stepped
  WaitsOn : is_some (wait_of io.streams.waits task) ≡ true → stepped ≡ (waits, io) → IsIoEnd io task stepped
  Over : is_some (wait_of io.streams.waits task) ≡ true → (before : Stepped) → is_waits before.0.answer ≡ false → Grown io.streams before.1.streams → before.1.files.systems ≡ io.files.systems → before.1.files.directories ≡ io.files.directories → stepped ≡ (before.0, without_wait before.1 task) → IsIoEnd io task stepped

module _ (io : IoState) (task : ℕ) (now : Moment) where
  -- a call begins a wait where it would have to wait
  pub or_waits : (what : Awaited) {on : List ℕ} {wait : Timeout} {stepped : Stepped} → IsTried io wait on stepped → IsIoCall false io task now wait (or_wait io task now what on wait stepped)
  or_waits what {on} {wait} {stepped} tried =
      cond_both (is_waits stepped.0.answer) _ _ (IsIoCall false io task now wait)
      (λ has_to. let may = tried.waits has_to in Begins what on may.0 may.1 refl)
      (λ over. Now (over_step tried over))

  -- what is waited for is tried again as a step that may have to wait
  pub again_tries : (what : Awaited) → (on : List ℕ) × IsTried io timeout.Pend on (again io what)
  again_tries (awaited.Read id n) = (id ∷ [], read_tries io id n timeout.Pend)
  again_tries (awaited.Accept id) = (id ∷ [], accept_tries io id timeout.Pend)
  again_tries (awaited.Receive id n) = (id ∷ [], receive_tries io id n timeout.Pend)
  again_tries (awaited.One id asked) = (id ∷ [], one_tries io id asked timeout.Pend)
  again_tries (awaited.Multi reads writes) = (_, multi_tries io reads writes timeout.Pend)

  as_ends : (due : Bool) (on : List ℕ) (stepped : Stepped) → IsTried io timeout.Pend on stepped → is_some (wait_of io.streams.waits task) ≡ true → IsIoEnd io task (ended_as io task due stepped)
  as_ends due on stepped tried some =
      cond_both (is_waits stepped.0.answer) _ _ (IsIoEnd io task)
      (λ has_to. either (IsIoEnd io task) due _ _
      (Over some (refusal status.ErrorTimeout, io) refl (Same refl) refl refl refl) (WaitsOn some refl))
      (λ over. Over some stepped over tried.streams tried.systems tried.directories refl)

  ended_ends : (found : Option (WaitRecord Awaited)) → wait_of io.streams.waits task ≡ found → IsIoEnd io task (ended io task now found)
  ended_ends None is = Refused (ap is_some is) refl
  ended_ends (Some wait) is =
      let tried = again_tries wait.what in
      as_ends (is_due wait now) tried.0 (again io wait.what) tried.1 (ap is_some is)

  -- the end of a wait
  pub end_ends : IsIoEnd io task (wait_end io task now)
  end_ends = ended_ends (wait_of io.streams.waits task) refl

  abandoned_ends : (found : Option (WaitRecord Awaited)) → wait_of io.streams.waits task ≡ found → IsIoEnd io task (in_streams io (abandoned io.streams task found))
  abandoned_ends None is = Refused (ap is_some is) refl
  abandoned_ends (Some wait) is = Over (ap is_some is) (success, io) refl (Same refl) refl refl refl

  -- a wait that is given up
  pub abandon_ends : IsIoEnd io task (wait_abandon io task)
  abandon_ends = abandoned_ends (wait_of io.streams.waits task) refl
