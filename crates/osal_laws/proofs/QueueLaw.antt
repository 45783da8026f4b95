-- Every history keeps the order of each queue, from its creation to its removal.
use Rattle.std.proofs.Common.{◌≡◌, ◌++◌, ◌&&◌, ◌==◌, ℕ, true, false, cond, List, [], ◌∷◌, Option, Some, None, option_map, Result, Ok, Err, refl, sym, ap, subst, append_assoc, ◌∙◌, inl, inr}
use Rattle.std.proofs.lemmas.Bool.{cases_eq, cond_both, eqb-true, both_ways}
use Rattle.std.proofs.lemmas.List.{append-nil}
use Rattle.osal_base.specs.declared.name.NameFault.{NameFault}
use Rattle.osal_base.specs.declared.name.NameFault.TheVariants as name_faults
use Rattle.osal_base.specs.declared.status.Status.TheVariants as status
use Rattle.osal_base.specs.declared.time.Moment.{Moment}
use Rattle.osal_base.specs.Name.{name_fault}
use Rattle.osal_base.specs.Reply.{Replied, refusal, gives, is_success}
use Rattle.osal_idtable.specs.declared.table.ReserveFault.{ReserveFault}
use Rattle.osal_idtable.specs.declared.table.ReserveFault.TheVariants as reserve_faults
use Rattle.osal_object.specs.declared.waits.WaitRecord.{WaitRecord}
use Rattle.osal_idtable.specs.Table.{Reserved}
use Rattle.osal_idtable.specs.Steps.{reserve_step}
use Rattle.osal_idtable.specs.Faults.{unless, name_status, reserve_status}
use Rattle.osal_object.specs.Objects.{created}
use Rattle.osal_object.specs.Outcomes.{Outcome, Refuse, Make, carried_out}
use Rattle.osal_object.proofs.Moves.{either}
use Rattle.osal_object.specs.Waits.{wait_of}
use Rattle.osal_object.proofs.SameObjects.{object_of, object_at, created_here}
use Rattle.osal_queue.specs.Queue.{Queue, may_be_sized, empty_queue}
use Rattle.osal_queue.specs.Queues as of_queues
use Rattle.osal_queue.specs.Queues.{QueueState, in_queues, done}
use Rattle.osal_call.specs.declared.call.Call.{Call}
use Rattle.osal_call.specs.declared.call.Call.TheVariants as call
use Rattle.osal_call.specs.declared.call.Entry.{Entry}
use Rattle.osal_call.specs.Call.{part_of}
use Rattle.osal_machine.specs.Parts.{Queues, part_step}
use Rattle.osal_queue.specs.Queues.{queue_step}
use Rattle.osal_machine.specs.Step.{MachineState, opening, part_in, in_machine, step}
use Rattle.osal_machine.specs.History.{IsLegalFrom, after_entry, replay_from, replay}
use Rattle.osal_laws.specs.QueueLaw.{put_by, got_from, is_this, brought_by, brought, given_by, given, is_queue_creation, is_delete_of, NoneRemoves, QueuesKeepTheirOrder}
use Rattle.osal_laws.proofs.Histories.{replay_push, replay_split, legal_rest}
use Rattle.osal_laws.proofs.Own.{other_kept}
use Rattle.osal_laws.proofs.QueueOrder.{Keeps, brought_as, given_as, none_moved, queue_order}

-- a call of another part puts nothing into a queue
puts_none : (id : ℕ) (made : Call) → (1 ≡ part_of made → ⊥) → put_by id made ≡ []
puts_none id (call.QueuePut other payload) not = absurd (not refl)
puts_none id other not = refl

waits_elsewhere : (queues : QueueState) (task part : ℕ) → (1 ≡ part_of (call.WaitEnd part) → ⊥) → got_from queues task (call.WaitEnd part) ≡ None
waits_elsewhere queues task part not =
    cond_both (part == 1) (option_map (λ (wait : WaitRecord ℕ). wait.what) (wait_of queues.objects.waits task)) None (λ (from : Option ℕ). from ≡ None)
    (λ is. absurd (not (ap (λ p. part_of (call.WaitEnd p)) (sym (eqb-true part 1 is)))))
    (λ is. refl)

-- a call of another part gets from no queue
gets_none : (queues : QueueState) (task : ℕ) (made : Call) → (1 ≡ part_of made → ⊥) → got_from queues task made ≡ None
gets_none queues task (call.QueueGet other n wait) not = absurd (not refl)
gets_none queues task (call.WaitEnd part) not = waits_elsewhere queues task part not
gets_none queues task other not = refl

-- a call of the queue part makes a step of the queues
queues_step : (state : MachineState) (task : ℕ) (now : Moment) (made : Call) → 1 ≡ part_of made → step state task now made ≡ ((queue_step state.queues task now made).0, record state { queues = (queue_step state.queues task now made).1 })
queues_step state task now made own =
    ap (λ part. in_machine state (part_step (part_in part state) task now made)) (sym own)

-- a call of another part leaves the queues
queues_kept : (state : MachineState) (task : ℕ) (now : Moment) (made : Call) → (1 ≡ part_of made → ⊥) → (step state task now made).1.queues ≡ state.queues
queues_kept state task now made not =
    let same : Queues (step state task now made).1.queues ≡ Queues state.queues = other_kept state task now made 1 not in cc

module _ (id : ℕ) where
  -- the queue of the identifier in a state
  abbrev At : MachineState → Queue → Type 0
  At state queue = object_at state.queues.objects.table id ≡ Some queue

  -- a step of the machine keeps the order of the queue
  abbrev Orders : MachineState → ℕ → Call → Queue → Replied × MachineState → Type 0
  Orders state task made old stepped =
      Keeps id old (put_by id made) (is_this id (got_from state.queues task made)) (stepped.0, stepped.1.queues)

  step_order : (state : MachineState) (task : ℕ) (now : Moment) (made : Call) (old : Queue) → At state old → (is_success (step state task now made).0.answer && is_delete_of id made) ≡ false → Orders state task made old (step state task now made)
  step_order state task now made old there none =
      elim (cases_eq 1 (part_of made)) [
        | inl own ↦
            let same = queues_step state task now made own in
            subst (Orders state task made old) (sym same)
            (queue_order state.queues id old there task now made (sym own) (ap (λ (s : Replied × MachineState). is_success s.0.answer && is_delete_of id made) (sym same) ∙ none))
        | inr not ↦ record {
          queue = old;
          there = ap (λ (queues : QueueState). object_at queues.objects.table id) (queues_kept state task now made not) ∙ there;
          order =
              let reply = (step state task now made).0 in
              ap (λ put. old.messages ++ brought_as put reply) (puts_none id made not)
              ∙ none_moved (is_success reply.answer) reply.bytes old.messages
              ∙ ap (λ from. given_as (is_this id from) reply ++ old.messages) (sym (gets_none state.queues task made not));
        }
      ]

  joined : (old put puts got gets middle last : List (List ℕ)) → old ++ put ≡ got ++ middle → middle ++ puts ≡ gets ++ last → old ++ (put ++ puts) ≡ (got ++ gets) ++ last
  joined old put puts got gets middle last first rest =
      sym (append_assoc old put puts) ∙ ap (λ l. l ++ puts) first ∙ append_assoc got middle puts ∙ ap (λ l. got ++ l) rest
      ∙ sym (append_assoc got gets last)

  -- entries that do not remove a queue keep its order
  entries_order : (entries : List Entry) (state : MachineState) (old last : Queue) → At state old → IsLegalFrom state entries → NoneRemoves id entries → At (replay_from state entries) last → old.messages ++ brought id entries ≡ given state id entries ++ last.messages
  entries_order [] state old last there legal none is =
      let both : Some old ≡ Some last = sym there ∙ is in
      let same : old ≡ last = cc in
      append-nil old.messages ∙ ap (λ (queue : Queue). queue.messages) same
  entries_order (entry ∷ entries) state old last there legal none is =
      let kept = step_order state entry.task entry.now entry.call old there (ap (λ (reply : Replied). is_success reply.answer && is_delete_of id entry.call) (sym legal.0) ∙ none.0) in
      let rest = entries_order entries (after_entry state entry) kept.queue last kept.there legal.1 none.1 is in
      let first : old.messages ++ brought_by id entry ≡ given_by state.queues id entry ++ kept.queue.messages =
      subst (λ (reply : Replied). old.messages ++ brought_as (put_by id entry.call) reply ≡ given_as (is_this id (got_from state.queues entry.task entry.call)) reply ++ kept.queue.messages) (sym legal.0) kept.order in
      joined old.messages (brought_by id entry) (brought id entries) (given_by state.queues id entry) (given (after_entry state entry) id entries) kept.queue.messages last.messages first rest

  -- the queue of the identifier has no messages
  record IsNew (queues : QueueState) : Type 0 where
    pub queue : Queue
    pub there : object_at queues.objects.table id ≡ Some queue
    pub none : queue.messages ≡ []

  -- a reply that is no success gives no identifier
  gives_none : (reply : Replied) → is_success reply.answer ≡ false → reply ≡ gives id → ⊥
  gives_none reply not is = both_ways _ not (ap (λ (r : Replied). is_success r.answer) is)

  fault_refuses : (fault : NameFault) → is_success (refusal (name_status fault)).answer ≡ false
  fault_refuses name_faults.Empty = refl
  fault_refuses name_faults.TooLong = refl
  fault_refuses name_faults.HasZero = refl

  reserve_refuses : (fault : ReserveFault) → is_success (refusal (reserve_status fault)).answer ≡ false
  reserve_refuses reserve_faults.NameTaken = refl
  reserve_refuses reserve_faults.NoFreeIds = refl

  created_new : (queues : QueueState) (name : List ℕ) (queue : Queue) (r : Result Reserved ReserveFault) → queue.messages ≡ [] → (reserve_step queues.objects.table (Some name)).0 ≡ r → (created queues.objects queue r (reserve_step queues.objects.table (Some name)).1).0 ≡ gives id → IsNew (in_queues (created queues.objects queue r (reserve_step queues.objects.table (Some name)).1)).1
  created_new queues name queue (Err fault) none is replied = absurd (gives_none _ (reserve_refuses fault) replied)
  created_new queues name queue (Ok reserved) none is replied =
      let same : reserved.id ≡ id = ap (λ (reply : Replied). reply.number) replied in
      record {
        queue = queue;
        there =
            ap (object_at (in_queues (created queues.objects queue (Ok reserved) (reserve_step queues.objects.table (Some name)).1)).1.objects.table) (sym same)
            ∙ created_here queues.objects (Some name) queue reserved is;
        none = none;
      }

  -- a step that gives the identifier makes its queue without messages
  abbrev MakesNew : Replied × QueueState → Type 0
  MakesNew stepped = stepped.0 ≡ gives id → IsNew stepped.1

  named_new : (queues : QueueState) (task : ℕ) (now : Moment) (does : Outcome Queue ℕ) (fault : Option NameFault) → MakesNew (done queues task now does) → MakesNew (in_queues (unless fault queues.objects (carried_out queues.objects task now does)))
  named_new queues task now does (Some fault) new = λ replied. absurd (gives_none _ (fault_refuses fault) replied)
  named_new queues task now does None new = new

  create_new : (queues : QueueState) (task : ℕ) (now : Moment) (name : List ℕ) (depth size : ℕ) → MakesNew (done queues task now (of_queues.queue_create task name depth size))
  create_new queues task now name depth size =
      let new = empty_queue depth size task in
      named_new queues task now (cond (may_be_sized depth size) (Make name new) (Refuse status.QueueInvalidSize)) (name_fault name)
      (either (λ (o : Outcome Queue ℕ). MakesNew (done queues task now o)) (may_be_sized depth size) _ _
      (λ replied. created_new queues name new (reserve_step queues.objects.table (Some name)).0 refl refl replied)
      (λ replied. absurd (gives_none _ refl replied)))

  -- a call that makes the queue of the identifier makes it without messages
  made_new : (state : MachineState) (task : ℕ) (now : Moment) (made : Call) → is_queue_creation made ≡ true → (step state task now made).0 ≡ gives id → IsNew (step state task now made).1.queues
  made_new state task now (call.QueueCreate name depth size) is replied =
      create_new state.queues task now name.bytes depth size replied
  made_new state task now other is replied = absurd (both_ways _ refl is)

-- what was put into a queue is what its gets gave and then what it holds
pub order_kept : QueuesKeepTheirOrder
order_kept limits before first after id queue legal makes none is =
    let state = replay limits before in
    let from_first = legal_rest (opening limits) before (first ∷ after) legal in
    let new = made_new id state first.task first.now first.call makes.creation (sym from_first.0 ∙ makes.gives) in
    let last = ap (λ (s : MachineState). object_at s.queues.objects.table id) (sym (replay_split (opening limits) before first after)) ∙ ap object_of is in
    let order = entries_order id after (after_entry state first) new.queue queue.object new.there from_first.1 none last in
    ap (λ l. l ++ brought id after) (sym new.none) ∙ order
    ∙ ap (λ (s : MachineState). given s id after ++ queue.object.messages) (sym (replay_push (opening limits) before first))
