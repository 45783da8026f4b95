-- The runners stay as far as the scripts, with one more entry.
use Rattle.std.proofs.Common.{◌≡◌, ◌<◌, ◌++◌, ℕ, true, false, cond, List, [], ◌∷◌, Option, Some, None, length, get_or, inl, inr, refl, sym, ap, subst, ◌∙◌, arith}
use Rattle.std.proofs.lemmas.Bool.{cases_eq, cases_lt, eq-eqb, ne_eqb}
use Rattle.std.proofs.lemmas.List.{length-set, get_or-set_same, get_or-set_other, get_or_past}
use Rattle.osal_call.specs.declared.call.Entry.{Entry}
use Rattle.osal_script.specs.Script.{ScriptState, start_of, after_entry, is_ended}
use Rattle.osal_runs.specs.Segments.{Segment, script_in, has_segment, joined}
use Rattle.osal_runs.specs.Linked.{newest_script}
use Rattle.osal_runs.proofs.Segments.{newest_joined, newest_other, newest_push}
use Rattle.osal_exec.specs.Running.{Running, runner_at, slot_of_task, AreRunning, gone_on, with_entry, with_begun}

-- where something stands, there is a place
pub within : {X : Type 0} (xs : List (Option X)) (at : ℕ) (x : X) → get_or xs at None ≡ Some x → at < length xs
within xs at x is =
    elim (cases_lt at (length xs)) [
      | inl below ↦ below
      | inr past ↦ let none = get_or_past xs at None past in absurd (cc)
    ]

-- a task's slot is one of the runners'
pub slot_within : (segments : List Segment) (runners : List (Option Running)) (id : ℕ) → AreRunning segments runners → slot_of_task id < length runners
slot_within segments runners id running = let count = running.slots in omega arith

module _ (segments : List Segment) (runners : List (Option Running)) (running : AreRunning segments runners) where
  -- two runners of one task are one
  one_runner : (slot other : ℕ) (runner another : Running) → runner_at runners slot ≡ Some runner → runner_at runners other ≡ Some another → runner.id ≡ another.id → slot ≡ other
  one_runner slot other runner another is also same =
      sym (running.known slot runner is).1 ∙ ap slot_of_task same ∙ (running.known other another also).1

  module _ (entry : Entry) (slot : ℕ) (runner : Running) (is : runner_at runners slot ≡ Some runner) (own : runner.id ≡ entry.task) (has : has_segment segments entry.task ≡ true) where
    -- the runner after the entry
    abbrev gone : Running
    gone = record runner { script = after_entry runner.script entry }

    -- it stands where it stood
    gone_here : runner_at (with_entry runners slot entry) slot ≡ Some gone
    gone_here =
        get_or-set_same runners slot (gone_on entry (runner_at runners slot)) None (within runners slot runner is)
        ∙ ap (gone_on entry) is

    -- any other stays
    gone_there : (other : ℕ) → (other ≡ slot → ⊥) → runner_at (with_entry runners slot entry) other ≡ runner_at runners other
    gone_there other ne = get_or-set_other runners slot other (gone_on entry (runner_at runners slot)) None ne

    -- the newest script of the task has gone on as the runner has
    newest_gone : newest_script (joined segments entry) runner.id ≡ gone.script
    newest_gone =
        ap (newest_script (joined segments entry)) own
        ∙ newest_joined segments entry has
        ∙ ap (λ (s : ScriptState). after_entry s entry) (ap (newest_script segments) (sym own) ∙ sym (running.known slot runner is).0)

    -- a runner in another slot is of another task
    other_task : (other : ℕ) (another : Running) → runner_at runners other ≡ Some another → (other ≡ slot → ⊥) → another.id ≡ entry.task → ⊥
    other_task other another also ne same = ne (one_runner other slot another runner also is (same ∙ sym own))

    known_joined : (other : ℕ) (another : Running) → runner_at (with_entry runners slot entry) other ≡ Some another → (another.script ≡ newest_script (joined segments entry) another.id) × (slot_of_task another.id ≡ other)
    known_joined other another also =
        elim (cases_eq other slot) [
          | inl same ↦
              let found : Some gone ≡ Some another = sym gone_here ∙ ap (runner_at (with_entry runners slot entry)) (sym same) ∙ also in
              let value : gone ≡ another = cc in
              subst (λ (r : Running). (r.script ≡ newest_script (joined segments entry) r.id) × (slot_of_task r.id ≡ other)) value
              (sym newest_gone, (running.known slot runner is).1 ∙ sym same)
          | inr ne ↦
              let before : runner_at runners other ≡ Some another = sym (gone_there other ne) ∙ also in
              let old = running.known other another before in
              (old.0 ∙ sym (newest_other segments entry another.id (other_task other another before ne)), old.1)
        ]

    all_joined : (id : ℕ) → is_ended (newest_script (joined segments entry) id).phase ≡ false → runner_at (with_entry runners slot entry) (slot_of_task id) ≡ Some (record { id = id; script = newest_script (joined segments entry) id })
    all_joined id goes =
        elim (cases_eq id entry.task) [
          | inl same ↦
              let mine : id ≡ runner.id = same ∙ sym own in
              let place : slot_of_task id ≡ slot = ap slot_of_task mine ∙ (running.known slot runner is).1 in
              let script : newest_script (joined segments entry) id ≡ gone.script = ap (newest_script (joined segments entry)) mine ∙ newest_gone in
              ap (runner_at (with_entry runners slot entry)) place
              ∙ gone_here
              ∙ ap (λ (s : ScriptState). Some (record { id = runner.id; script = s })) (sym script)
              ∙ ap (λ n. Some (record { id = n; script = newest_script (joined segments entry) id })) (sym mine)
          | inr ne ↦
              let stays : newest_script (joined segments entry) id ≡ newest_script segments id = newest_other segments entry id ne in
              let old = running.all id (ap (λ (s : ScriptState). is_ended s.phase) (sym stays) ∙ goes) in
              let elsewhere : slot_of_task id ≡ slot → ⊥ = λ place. ne (let found : Some runner ≡ Some (record { id = id; script = newest_script segments id }) = sym is ∙ ap (runner_at runners) (sym place) ∙ old in let value : runner ≡ record { id = id; script = newest_script segments id } = cc in sym (ap (λ (r : Running). r.id) value) ∙ own) in
              gone_there (slot_of_task id) elsewhere
              ∙ old
              ∙ ap (λ (s : ScriptState). Some (record { id = id; script = s })) (sym stays)
        ]

    -- the runners are as far as the scripts behind the entry
    pub running_joined : AreRunning (joined segments entry) (with_entry runners slot entry)
    running_joined = record {
      slots = length-set runners slot (gone_on entry (runner_at runners slot)) ∙ running.slots;
      known = known_joined;
      all = all_joined;
    }

  module _ (new : Segment) (fresh : new.entries ≡ []) (free : (id : ℕ) → is_ended (newest_script segments id).phase ≡ false → slot_of_task id ≡ slot_of_task new.id → ⊥) where
    -- the runner of the segment that begins
    abbrev first : Running
    first = record { id = new.id; script = start_of new.bodies new.body }

    -- it stands in its slot
    first_here : runner_at (with_begun runners (new ∷ [])) (slot_of_task new.id) ≡ Some first
    first_here =
        get_or-set_same runners (slot_of_task new.id) (Some first) None (slot_within segments runners new.id running)

    -- any other stays
    first_there : (other : ℕ) → (other ≡ slot_of_task new.id → ⊥) → runner_at (with_begun runners (new ∷ [])) other ≡ runner_at runners other
    first_there other ne = get_or-set_other runners (slot_of_task new.id) other (Some first) None ne

    -- the newest script of the new task is at its start
    newest_first : (id : ℕ) → id ≡ new.id → newest_script (segments ++ new ∷ []) id ≡ start_of new.bodies new.body
    newest_first id same =
        newest_push segments new id
        ∙ ap (λ b. cond b (script_in new) (newest_script segments id)) (eq-eqb new.id id (sym same))
        ∙ ap (λ (entries : List Entry). script_in (record new { entries = entries })) fresh

    -- that of any other stays
    newest_last : (id : ℕ) → (id ≡ new.id → ⊥) → newest_script (segments ++ new ∷ []) id ≡ newest_script segments id
    newest_last id ne =
        newest_push segments new id
        ∙ ap (λ b. cond b (script_in new) (newest_script segments id)) (ne_eqb new.id id (λ e. ne (sym e)))

    known_push : (other : ℕ) (another : Running) → runner_at (with_begun runners (new ∷ [])) other ≡ Some another → (another.script ≡ newest_script (segments ++ new ∷ []) another.id) × (slot_of_task another.id ≡ other)
    known_push other another also =
        elim (cases_eq other (slot_of_task new.id)) [
          | inl same ↦
              let found : Some first ≡ Some another = sym first_here ∙ ap (runner_at (with_begun runners (new ∷ []))) (sym same) ∙ also in
              let value : first ≡ another = cc in
              subst (λ (r : Running). (r.script ≡ newest_script (segments ++ new ∷ []) r.id) × (slot_of_task r.id ≡ other)) value (sym (newest_first new.id refl), sym same)
          | inr ne ↦
              let before : runner_at runners other ≡ Some another = sym (first_there other ne) ∙ also in
              let old = running.known other another before in
              (old.0 ∙ sym (newest_last another.id (λ e. ne (sym old.1 ∙ ap slot_of_task e))), old.1)
        ]

    all_push : (id : ℕ) → is_ended (newest_script (segments ++ new ∷ []) id).phase ≡ false → runner_at (with_begun runners (new ∷ [])) (slot_of_task id) ≡ Some (record { id = id; script = newest_script (segments ++ new ∷ []) id })
    all_push id goes =
        elim (cases_eq id new.id) [
          | inl same ↦
              ap (λ n. runner_at (with_begun runners (new ∷ [])) (slot_of_task n)) same
              ∙ first_here
              ∙ ap (λ (s : ScriptState). Some (record { id = new.id; script = s })) (sym (newest_first id same))
              ∙ ap (λ n. Some (record { id = n; script = newest_script (segments ++ new ∷ []) id })) (sym same)
          | inr ne ↦
              let stays = newest_last id ne in
              let before : is_ended (newest_script segments id).phase ≡ false = ap (λ (s : ScriptState). is_ended s.phase) (sym stays) ∙ goes in
              first_there (slot_of_task id) (free id before)
              ∙ running.all id before
              ∙ ap (λ (s : ScriptState). Some (record { id = id; script = s })) (sym stays)
        ]

    -- the runners are as far as the scripts with the new one
    pub running_push : AreRunning (segments ++ new ∷ []) (with_begun runners (new ∷ []))
    running_push = record {
      slots = length-set runners (slot_of_task new.id) (Some first) ∙ running.slots;
      known = known_push;
      all = all_push;
    }
