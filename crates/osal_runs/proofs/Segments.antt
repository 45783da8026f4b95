-- The segments with one more entry.
use Rattle.std.proofs.Common.{◌≡◌, ◌||◌, ◌++◌, ℕ, Bool, true, false, cond, List, [], ◌∷◌, inl, inr, refl, sym, ap, ◌∙◌, arith}
use Rattle.std.specs.List.{AllByRecursion}
use Rattle.std.proofs.lemmas.Bool.{cond_both, cases_Bool, false≢true, or_parts}
use Rattle.std.proofs.lemmas.Bool.Decides.{nat_tests}
use Rattle.std.proofs.lemmas.List.Folds.{list_any-append}
use Rattle.osal_base.specs.Reply.{Replied, reply_of, is_waits}
use Rattle.osal_call.specs.declared.call.Call.{Call}
use Rattle.osal_call.specs.declared.call.Entry.{Entry}
use Rattle.osal_script.specs.declared.phase.Phase.{Phase}
use Rattle.osal_script.specs.declared.phase.Phase.TheVariants as phase
use Rattle.osal_script.specs.App.{ScriptBody}
use Rattle.osal_script.specs.Script.{Pending, Frames, ScriptState, start_of, after_answer, is_checkpoint, after_in, reached, Follow, IsNext, after_entry}
use Rattle.osal_runs.specs.Segments.{Segment, script_in, is_of, has_segment, joined}
use Rattle.osal_runs.specs.Linked.{no_script, newest_script}

-- how far a script has come after one more entry
pub reached_push : (state : ScriptState) (entries : List Entry) (entry : Entry) → reached state (entries ++ entry ∷ []) ≡ after_entry (reached state entries) entry
reached_push state [] entry = refl
reached_push state (first ∷ entries) entry = reached_push (after_entry state first) entries entry

-- one more call that may come next
pub follow_push : (state : ScriptState) (entries : List Entry) (entry : Entry) → Follow state entries → IsNext (reached state entries) entry → Follow state (entries ++ entry ∷ [])
follow_push state [] entry follows next = (next, tt)
follow_push state (first ∷ entries) entry follows next = (follows.0, follow_push (after_entry state first) entries entry follows.1 next)

-- the last of some calls came next, and the others before it
pub follow_front : (state : ScriptState) (entries : List Entry) (entry : Entry) → Follow state (entries ++ entry ∷ []) → Follow state entries × IsNext (reached state entries) entry
follow_front state [] entry follows = (tt, follows.0)
follow_front state (first ∷ entries) entry follows =
    let rest = follow_front (after_entry state first) entries entry follows.1 in ((follows.0, rest.0), rest.1)

answered_bodies : (bodies : List ScriptBody) (pending : List Pending) (frames : Frames) (reply : Replied) → (after_answer bodies pending frames reply).bodies ≡ bodies
answered_bodies bodies [] frames reply = refl
answered_bodies bodies (next ∷ pending) frames reply = refl

bodies_in : (at : Phase) (from : ScriptState) (made : Call) (reply : Replied) → (after_in at from made reply).bodies ≡ from.bodies
bodies_in phase.Before from made reply = refl
bodies_in phase.At from made reply =
    cond_both (is_waits reply.answer) _ _ (λ (s : ScriptState). s.bodies ≡ from.bodies) (λ t. refl) (λ f. answered_bodies from.bodies from.pending from.frames reply)
bodies_in (phase.Waiting part) from made reply =
    cond_both (is_checkpoint made) _ _ (λ (s : ScriptState). s.bodies ≡ from.bodies) (λ t. refl) (λ f. answered_bodies from.bodies from.pending from.frames reply)
bodies_in (phase.Leaving part) from made reply = refl
bodies_in phase.Ended from made reply = refl

-- a script keeps the bodies that it knows
pub bodies_after : (from : ScriptState) (entry : Entry) → (after_entry from entry).bodies ≡ from.bodies
bodies_after from entry = bodies_in from.phase from entry.call (reply_of entry.reply)

-- also behind some entries
pub bodies_reached : (from : ScriptState) (entries : List Entry) → (reached from entries).bodies ≡ from.bodies
bodies_reached from [] = refl
bodies_reached from (entry ∷ entries) = bodies_reached (after_entry from entry) entries ∙ bodies_after from entry

-- an entry begins no segment by itself where it joins one
pub has_joined : (segments : List Segment) (entry : Entry) (id : ℕ) → has_segment (joined segments entry) id ≡ has_segment segments id
has_joined [] entry id = refl
has_joined (segment ∷ segments) entry id =
    cond_both (has_segment segments entry.task) _ _ (λ (list : List Segment). has_segment list id ≡ has_segment (segment ∷ segments) id)
    (λ t. ap (λ b. is_of id segment || b) (has_joined segments entry id))
    (λ f. cond_both (is_of entry.task segment) _ _ (λ (list : List Segment). has_segment list id ≡ has_segment (segment ∷ segments) id) (λ t. refl) (λ f. refl))

-- one of two where the second does not hold
pub first_of_or : (a b : Bool) → (a || b) ≡ true → b ≡ false → a ≡ true
first_of_or true b is none = refl
first_of_or false b is none = absurd (false≢true (sym none ∙ is))

-- the newest script of the entry's task has come one entry further
pub newest_joined : (segments : List Segment) (entry : Entry) → has_segment segments entry.task ≡ true → newest_script (joined segments entry) entry.task ≡ after_entry (newest_script segments entry.task) entry
newest_joined [] entry is = absurd (false≢true is)
newest_joined (segment ∷ segments) entry is =
    elim (cases_Bool (has_segment segments entry.task)) [
      | inl later ↦ rw (later, has_joined segments entry entry.task, later) (newest_joined segments entry later)
      | inr last ↦
          let mine : is_of entry.task segment ≡ true = first_of_or (is_of entry.task segment) (has_segment segments entry.task) is last in
          rw (last, mine, last, mine) (reached_push (start_of segment.bodies segment.body) segment.entries entry)
    ]

-- a segment of one identifier is of no other
other_of : (id other : ℕ) (segment : Segment) → is_of id segment ≡ true → (other ≡ id → ⊥) → is_of other segment ≡ false
other_of id other segment is ne = grind (arith, nat_tests)

-- the newest script of any other task stays
pub newest_other : (segments : List Segment) (entry : Entry) (id : ℕ) → (id ≡ entry.task → ⊥) → newest_script (joined segments entry) id ≡ newest_script segments id
newest_other [] entry id ne = refl
newest_other (segment ∷ segments) entry id ne =
    elim (cases_Bool (has_segment segments entry.task)) [
      | inl later ↦
          rw (later, has_joined segments entry id)
          (ap (λ script. cond (has_segment segments id) script (cond (is_of id segment) (script_in segment) no_script)) (newest_other segments entry id ne))
      | inr last ↦ elim (cases_Bool (is_of entry.task segment)) [
        | inl mine ↦ rw (last, mine, other_of entry.task id segment mine ne) refl
        | inr others ↦ rw (last, others) refl
      ]
    ]

-- an entry whose task has no segment joins none
pub joined_none : (segments : List Segment) (entry : Entry) → has_segment segments entry.task ≡ false → joined segments entry ≡ segments
joined_none [] entry none = refl
joined_none (segment ∷ segments) entry none =
    let parts = or_parts (is_of entry.task segment) (has_segment segments entry.task) none in rw (parts.1, parts.0) refl

-- an identifier without a segment has no script
pub newest_none : (segments : List Segment) (id : ℕ) → has_segment segments id ≡ false → newest_script segments id ≡ no_script
newest_none [] id none = refl
newest_none (segment ∷ segments) id none =
    let parts = or_parts (is_of id segment) (has_segment segments id) none in rw (parts.1, parts.0) refl

-- whether an identifier has a segment among more
pub has_more : (segments more : List Segment) (id : ℕ) → has_segment (segments ++ more) id ≡ (has_segment segments id || has_segment more id)
has_more segments more id = list_any-append (is_of id) segments more

swap_last : {A : Type 0} (a b : Bool) (x y z : A) → cond (a || (b || false)) (cond b x y) z ≡ cond b x (cond a y z)
swap_last true true x y z = refl
swap_last true false x y z = refl
swap_last false true x y z = refl
swap_last false false x y z = refl

-- a segment at the end is the newest of its identifier
pub newest_push : (segments : List Segment) (new : Segment) (id : ℕ) → newest_script (segments ++ new ∷ []) id ≡ cond (is_of id new) (script_in new) (newest_script segments id)
newest_push [] new id = refl
newest_push (segment ∷ segments) new id =
    rw (has_more segments (new ∷ []) id, newest_push segments new id)
    (swap_last (has_segment segments id) (is_of id new) (script_in new) (newest_script segments id) (cond (is_of id segment) (script_in segment) no_script))

-- what holds of each segment's script, and of none, holds of the newest
pub newest_all : (P : ScriptState → Type 0) (segments : List Segment) (id : ℕ) → P no_script → AllByRecursion (λ (s : Segment). P (script_in s)) segments → P (newest_script segments id)
newest_all P [] id none all = none
newest_all P (segment ∷ segments) id none all =
    cond_both (has_segment segments id) _ _ P (λ t. newest_all P segments id none all.1) (λ f. cond_both (is_of id segment) _ _ P (λ t. all.0) (λ f. none))
