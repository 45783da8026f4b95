-- What each call does to the messages of one queue: it leaves them, puts one behind them, or takes the first.
use Rattle.std.proofs.Common.{◌≡◌, ◌==◌, ◌++◌, ◌&&◌, ℕ, Bool, true, false, cond, List, [], ◌∷◌, length, Option, Some, None, is_some, option_map, Result, Ok, Err, nat_lt, refl, sym, ap, subst, ◌∙◌, arith}
use Rattle.std.proofs.lemmas.Bool.{both_ways, eq-eqb, eqb-true, eqb-false, cond-true, cond_both}
use Rattle.std.proofs.lemmas.List.{append-nil}
use Rattle.osal_base.specs.declared.name.NameFault.{NameFault}
use Rattle.osal_base.specs.declared.status.Status.{Status}
use Rattle.osal_base.specs.declared.status.Status.TheVariants as status
use Rattle.osal_base.specs.declared.time.Moment.{Moment}
use Rattle.osal_base.specs.declared.time.Timeout.{Timeout}
use Rattle.osal_base.specs.Name.{name_fault}
use Rattle.osal_base.specs.Reply.{Replied, success, gives_bytes, is_success}
use Rattle.osal_base.specs.Time.{is_check}
use Rattle.osal_idtable.specs.declared.table.IdFault.{IdFault}
use Rattle.osal_object.specs.declared.waits.WaitRecord.{WaitRecord}
use Rattle.osal_idtable.specs.Table.{Active, TableState, active_at, replaced}
use Rattle.osal_idtable.specs.Steps.{reserve_step, take_out, unheld}
use Rattle.osal_idtable.specs.Faults.{unless, answered, name_bytes}
use Rattle.osal_object.specs.Standing.{standing_on}
use Rattle.osal_object.specs.Waits.{new_wait, wait_of, wait_fault, is_due}
use Rattle.osal_object.specs.Objects.{create_step}
use Rattle.osal_object.specs.Waiting.{begun, begin_step, abandoned}
use Rattle.osal_object.specs.Outcomes.{Outcome, Refuse, Make, Remove, Ending, tell, found_then, carried_out, ended_as}
use Rattle.osal_object.proofs.SameObjects.{object_of, object_at, SameObjects, written_here, put_elsewhere, taken_elsewhere, caller_hold_same, caller_release_same, begin_same, end_same, create_keeps}
use Rattle.osal_queue.specs.Queue.{Queue, may_be_sized, empty_queue, with_message, with_messages}
use Rattle.osal_queue.specs.Queues as of_queues
use Rattle.osal_queue.specs.Queues.{QueueState, queue_at, in_queues, with_queue, done}
use Rattle.osal_call.specs.declared.call.Call.{Call}
use Rattle.osal_call.specs.declared.call.Call.TheVariants as call
use Rattle.osal_call.specs.Call.{part_of, part_of_wait}
use Rattle.osal_queue.specs.Queues.{queue_step}
use Rattle.osal_laws.specs.QueueLaw.{put_by, got_from, is_this, is_delete_of}
use Rattle.osal_object.proofs.Moves.{either}

module _ {T : Type 0} where
  -- where there is an object, the identifier is active
  active_there : (o : Option (Active T)) (object : T) → object_of o ≡ Some object → is_some o ≡ true
  active_there None object is = cc
  active_there (Some active) object is = refl

  -- a put under an active identifier gives it the new object
  put_under : (table : TableState T) (id : ℕ) (object : T) (o : Option (Active T)) → is_some o ≡ true → object_at (replaced table id object o) id ≡ Some object
  put_under table id object None some = absurd (both_ways _ refl some)
  put_under table id object (Some a) some = written_here table id (record a { object = object })

-- what a call brings to a queue where it may put some messages there and has this reply
abbrev pub brought_as : List (List ℕ) → Replied → List (List ℕ)
brought_as put reply = cond (is_success reply.answer) put []

-- what a call gives of a queue where it has this reply: nothing, unless it gets from the queue
abbrev pub given_as : Bool → Replied → List (List ℕ)
given_as gets reply = cond (is_success reply.answer && gets) (reply.bytes ∷ []) []

-- after a step a queue is still there, and has its old messages and what was brought, without what was given
pub record Keeps (id : ℕ) (old : Queue) (put : List (List ℕ)) (gets : Bool) (stepped : Replied × QueueState) : Type 0 where
  pub queue : Queue
  pub there : object_at stepped.1.objects.table id ≡ Some queue
  pub order : old.messages ++ brought_as put stepped.0 ≡ given_as gets stepped.0 ++ queue.messages

-- a call that neither puts nor gets moves no message
pub none_moved : (is : Bool) (message : List ℕ) (messages : List (List ℕ)) → messages ++ cond is [] [] ≡ cond (is && false) (message ∷ []) [] ++ messages
none_moved true message messages = append-nil messages
none_moved false message messages = append-nil messages

none_refused : (is gets : Bool) (put : List (List ℕ)) (message : List ℕ) (messages : List (List ℕ)) → is ≡ false → messages ++ cond is put [] ≡ cond (is && gets) (message ∷ []) [] ++ messages
none_refused true gets put message messages refused = cc
none_refused false gets put message messages refused = append-nil messages

one_object : (o : Option (Active Queue)) (active : Active Queue) (old : Queue) → o ≡ Some active → object_of o ≡ Some old → active.object ≡ old
one_object None active old is there = cc
one_object (Some other) active old is there =
    let same : other ≡ active = cc in
    let one : other.object ≡ old = cc in
    ap (λ (a : Active Queue). a.object) (sym same) ∙ one

own_wait : (part : ℕ) → part_of_wait part ≡ 1 → (part == 1) ≡ true
own_wait part =
    cond_both (nat_lt 8 part) 0 part (λ (own : ℕ). own ≡ 1 → (part == 1) ≡ true) (λ t own. absurd (omega arith)) (λ t own. eq-eqb part 1 own)

module _ (queues : QueueState) (id : ℕ) (old : Queue) (there : object_at queues.objects.table id ≡ Some old) where
  -- a step keeps the order of the queue
  abbrev Orders : List (List ℕ) → Bool → Replied × QueueState → Type 0
  Orders put gets stepped = Keeps id old put gets stepped

  -- a call that neither puts nor gets
  untouched : (stepped : Replied × QueueState) → object_at stepped.1.objects.table id ≡ object_at queues.objects.table id → Orders [] false stepped
  untouched stepped same = record {
    queue = old;
    there = same ∙ there;
    order = none_moved (is_success stepped.0.answer) stepped.0.bytes old.messages;
  }

  -- a call that is refused, or waits
  refused : (put : List (List ℕ)) (gets : Bool) (stepped : Replied × QueueState) → is_success stepped.0.answer ≡ false → object_at stepped.1.objects.table id ≡ object_at queues.objects.table id → Orders put gets stepped
  refused put gets stepped not same = record {
    queue = old;
    there = same ∙ there;
    order = none_refused (is_success stepped.0.answer) gets put stepped.0.bytes old.messages not;
  }

  -- what is done under a name that has a fault, or none
  named_order : (task : ℕ) (now : Moment) (does : Outcome Queue ℕ) (fault : Option NameFault) → Orders [] false (done queues task now does) → Orders [] false (in_queues (unless fault queues.objects (carried_out queues.objects task now does)))
  named_order task now does (Some fault) order = untouched _ refl
  named_order task now does None order = order

  create_order : (task : ℕ) (now : Moment) (name : List ℕ) (depth size : ℕ) → Orders [] false (done queues task now (of_queues.queue_create task name depth size))
  create_order task now name depth size =
      let new = empty_queue depth size task in
      named_order task now (cond (may_be_sized depth size) (Make name new) (Refuse status.QueueInvalidSize)) (name_fault name)
      (either (λ (o : Outcome Queue ℕ). Orders [] false (done queues task now o)) (may_be_sized depth size) _ _
      (untouched (in_queues (create_step queues.objects (Some name) new))
      (create_keeps queues.objects (Some name) new (reserve_step queues.objects.table (Some name)).0 refl id (active_there (active_at queues.objects.table id) old there)))
      (untouched _ refl))

  -- what is done with a queue that is there, or not
  found_order : (put : List (List ℕ)) (gets : Bool) (task : ℕ) (now : Moment) (does : Active Queue → Outcome Queue ℕ) (found : Option (Active Queue)) → ((active : Active Queue) → found ≡ Some active → Orders put gets (done queues task now (does active))) → Orders put gets (in_queues (found_then queues.objects (λ active. carried_out queues.objects task now (does active)) found))
  found_order put gets task now does None order = refused put gets _ refl refl
  found_order put gets task now does (Some active) order = order active refl

  removal_keeps : (other : ℕ) (r : Result Queue IdFault) (this : Bool) → (other == id) ≡ this → (is_success (answered (take_out queues.objects.table other r).0).answer && this) ≡ false → object_at (take_out queues.objects.table other r).1 id ≡ object_at queues.objects.table id
  removal_keeps other (Err fault) this is none = refl
  removal_keeps other (Ok object) true is none = cc
  removal_keeps other (Ok object) false is none =
      taken_elsewhere queues.objects.table other (Ok object) id (λ same. eqb-false other id is (sym same))

  delete_order : (task : ℕ) (now : Moment) (other : ℕ) → (is_success (done queues task now (Remove other)).0.answer && (other == id)) ≡ false → Orders [] false (done queues task now (Remove other))
  delete_order task now other none =
      untouched _ (removal_keeps other (unheld (active_at queues.objects.table other)) (other == id) refl none)

  put_accepted : (other : ℕ) (message : List ℕ) (active : Active Queue) (this : Bool) → (other == id) ≡ this → queue_at queues other ≡ Some active → Orders (cond this (message ∷ []) []) false (success, with_queue queues other (with_message active.object message))
  put_accepted other message active true is found = record {
    queue = with_message old message;
    there =
        let same = eqb-true other id is in
        let one = one_object (queue_at queues id) active old (ap (queue_at queues) (sym same) ∙ found) there in
        ap (object_at (with_queue queues other (with_message active.object message)).objects.table) (sym same)
        ∙ put_under queues.objects.table other (with_message active.object message) (queue_at queues other) (ap is_some found)
        ∙ ap (λ (q : Queue). Some (with_message q message)) one;
    order = refl;
  }
  put_accepted other message active false is found = record {
    queue = old;
    there = put_elsewhere queues.objects.table other (with_message active.object message) (queue_at queues other) id (λ same. eqb-false other id is (sym same)) ∙ there;
    order = append-nil old.messages;
  }

  put_order : (task : ℕ) (now : Moment) (other : ℕ) (message : List ℕ) (active : Active Queue) → queue_at queues other ≡ Some active → Orders (cond (other == id) (message ∷ []) []) false (done queues task now (of_queues.put_into other message active))
  put_order task now other message active is =
      let P : Outcome Queue ℕ → Type 0 = λ o. Orders (cond (other == id) (message ∷ []) []) false (done queues task now o) in
      either P (nat_lt active.object.size (length message)) _ _ (refused _ false _ refl refl)
      (either P (nat_lt (length active.object.messages) active.object.depth) _ _ (put_accepted other message active (other == id) refl is) (refused _ false _ refl refl))

  put_any : (task : ℕ) (now : Moment) (other : ℕ) (message : List ℕ) → Orders (cond (other == id) (message ∷ []) []) false (done queues task now (of_queues.queue_put other message))
  put_any task now other message =
      either (λ (o : Outcome Queue ℕ). Orders (cond (other == id) (message ∷ []) []) false (done queues task now o)) (length message == 0) _ _
      (refused _ false _ refl refl)
      (found_order _ false task now (of_queues.put_into other message) (queue_at queues other) (put_order task now other message))

  -- the first message of a queue is taken, and no other object changes
  taken : (other : ℕ) (active : Active Queue) (message : List ℕ) (messages : List (List ℕ)) (this : Bool) (new : QueueState) → (other == id) ≡ this → queue_at queues other ≡ Some active → active.object.messages ≡ message ∷ messages → SameObjects (with_queue queues other (with_messages active.object messages)).objects.table new.objects.table → Orders [] this (gives_bytes (length message) message, new)
  taken other active message messages true new is found first same_objects =
      let same = eqb-true other id is in
      let one = one_object (queue_at queues id) active old (ap (queue_at queues) (sym same) ∙ found) there in
      record {
        queue = with_messages old messages;
        there =
            same_objects id
            ∙ ap (object_at (with_queue queues other (with_messages active.object messages)).objects.table) (sym same)
            ∙ put_under queues.objects.table other (with_messages active.object messages) (queue_at queues other) (ap is_some found)
            ∙ ap (λ (q : Queue). Some (with_messages q messages)) one;
        order = append-nil old.messages ∙ ap (λ (q : Queue). q.messages) (sym one) ∙ first;
      }
  taken other active message messages false new is found first same_objects = record {
    queue = old;
    there =
        same_objects id
        ∙ put_elsewhere queues.objects.table other (with_messages active.object messages) (queue_at queues other) id (λ same. eqb-false other id is (sym same))
        ∙ there;
    order = append-nil old.messages;
  }

  -- a wait that begins is no success
  none_begun : (wait : WaitRecord ℕ) → is_success (begin_step queues.objects wait).0.answer ≡ false
  none_begun wait =
      let P : Option Status → Type 0 = λ fault. is_success (begun queues.objects wait fault).0.answer ≡ false in
      either P (is_some (wait_of queues.objects.waits wait.task)) _ _ refl
      (either P (nat_lt (length queues.objects.waits.records) queues.objects.waits.capacity) _ _ refl refl)

  first_order : (task : ℕ) (now : Moment) (other : ℕ) (wait : Timeout) (active : Active Queue) (messages : List (List ℕ)) → queue_at queues other ≡ Some active → active.object.messages ≡ messages → Orders [] (other == id) (done queues task now (of_queues.get_first other wait active.object messages))
  first_order task now other wait active [] found is =
      let get = new_wait task other (standing_on (Some other)) wait now in
      either (λ (o : Outcome Queue ℕ). Orders [] (other == id) (done queues task now o)) (is_check wait) _ _ (refused [] _ _ refl refl)
      (refused [] _ (in_queues (begin_step queues.objects get)) (none_begun get)
      (begin_same queues.objects get (wait_fault queues.objects.waits task) id))
  first_order task now other wait active (message ∷ messages) found is =
      taken other active message messages (other == id) _ refl found is (λ q. refl)

  get_order : (task : ℕ) (now : Moment) (other room : ℕ) (wait : Timeout) (active : Active Queue) → queue_at queues other ≡ Some active → Orders [] (other == id) (done queues task now (of_queues.get_from other room wait active))
  get_order task now other room wait active is =
      either (λ (o : Outcome Queue ℕ). Orders [] (other == id) (done queues task now o)) (nat_lt room active.object.size) _ _ (refused [] _ _ refl refl)
      (first_order task now other wait active active.object.messages is refl)

  -- the end of a get keeps the order of the queue
  abbrev Ended : Bool → ℕ → Ending Queue ℕ → Type 0
  Ended gets task ending = Orders [] gets (in_queues (ended_as queues.objects task ending))

  late_order : (gets : Bool) (task : ℕ) (now : Moment) (wait : WaitRecord ℕ) → Ended gets task (of_queues.get_late now wait)
  late_order gets task now wait =
      either (Ended gets task) (is_due wait now) _ _
      (refused [] gets _ refl (end_same queues.objects task (wait_of queues.objects.waits task) id))
      (refused [] gets _ refl refl)

  got_order : (task : ℕ) (now : Moment) (wait : WaitRecord ℕ) (active : Active Queue) (messages : List (List ℕ)) → queue_at queues wait.what ≡ Some active → active.object.messages ≡ messages → Ended (wait.what == id) task (of_queues.got_first now wait active.object messages)
  got_order task now wait active [] found is = late_order _ task now wait
  got_order task now wait active (message ∷ messages) found is =
      let taken_from = with_queue queues wait.what (with_messages active.object messages) in
      taken wait.what active message messages (wait.what == id) _ refl found is (end_same taken_from.objects task (wait_of queues.objects.waits task))

  got_from_order : (task : ℕ) (now : Moment) (wait : WaitRecord ℕ) (found : Option (Active Queue)) → queue_at queues wait.what ≡ found → Ended (wait.what == id) task (of_queues.got_from now wait found)
  got_from_order task now wait None is = late_order _ task now wait
  got_from_order task now wait (Some active) is = got_order task now wait active active.object.messages is refl

  end_order : (task : ℕ) (now : Moment) (found : Option (WaitRecord ℕ)) → Ended (is_this id (option_map (λ (wait : WaitRecord ℕ). wait.what) found)) task (of_queues.get_ending queues now found)
  end_order task now None = refused [] _ _ refl refl
  end_order task now (Some wait) = got_from_order task now wait (queue_at queues wait.what) refl

  abandon_order : (task : ℕ) (found : Option (WaitRecord ℕ)) → Orders [] false (in_queues (abandoned queues.objects task found))
  abandon_order task None = untouched _ refl
  abandon_order task (Some wait) =
      untouched _ (end_same queues.objects task (wait_of queues.objects.waits task) id)

  -- a call of the part keeps the order of the queue, unless it removes the queue
  pub queue_order : (task : ℕ) (now : Moment) (made : Call) → part_of made ≡ 1 → (is_success (queue_step queues task now made).0.answer && is_delete_of id made) ≡ false → Orders (put_by id made) (is_this id (got_from queues task made)) (queue_step queues task now made)
  queue_order task now (call.QueueCreate name depth size) own none =
      create_order task now name.bytes depth size
  queue_order task now (call.QueueDelete other) own none = delete_order task now other none
  queue_order task now (call.QueuePut other payload) own none = put_any task now other payload.bytes
  queue_order task now (call.QueueGet other n wait) own none =
      found_order [] _ task now (of_queues.get_from other n wait) (queue_at queues other) (get_order task now other n wait)
  queue_order task now (call.QueueInfo other) own none =
      found_order [] false task now (λ active. tell active.object.creator (name_bytes active.name)) (queue_at queues other) (λ active is. untouched _ refl)
  queue_order task now (call.Hold other) own none =
      untouched _ (caller_hold_same queues.objects other (active_at queues.objects.table other) refl id)
  queue_order task now (call.Release other) own none =
      untouched _ (caller_release_same queues.objects other (active_at queues.objects.table other) refl id)
  queue_order task now (call.WaitEnd part) own none =
      let waited = wait_of queues.objects.waits task in
      subst (λ (from : Option ℕ). Ended (is_this id from) task (of_queues.get_ending queues now waited))
      (sym (cond-true (part == 1) (option_map (λ (wait : WaitRecord ℕ). wait.what) waited) None (own_wait part own)))
      (end_order task now waited)
  queue_order task now (call.WaitAbandon part) own none = abandon_order task (wait_of queues.objects.waits task)
  queue_order task now other own none = untouched _ refl
