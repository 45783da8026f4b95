-- What holds of each segment, with one more entry.
use Rattle.std.proofs.Common.{◌≡◌, ◌||◌, ◌++◌, ℕ, Bool, true, false, List, [], ◌∷◌, inl, inr, refl, sym, ap, ◌∙◌, arith}
use Rattle.std.specs.List.{AllByRecursion}
use Rattle.std.proofs.lemmas.Bool.{cond_both, cases_Bool, false≢true, or_left, or_right, eqb-true}
use Rattle.std.proofs.lemmas.Bool.Decides.{nat_tests}
use Rattle.osal_call.specs.declared.call.Entry.{Entry}
use Rattle.osal_script.specs.Script.{start_of, IsNext, is_ended}
use Rattle.osal_runs.specs.Segments.{Segment, is_of, has_segment, joined}
use Rattle.osal_runs.specs.Runs.{FollowsScript, EndsBefore}
use Rattle.osal_runs.specs.Linked.{newest_script}
use Rattle.osal_runs.proofs.Segments.{follow_push, follow_front, has_joined, has_more, first_of_or, newest_none}

-- what holds of each of two lists holds of both behind one another
pub all_more : {X : Type 0} (P : X → Type 0) (xs ys : List X) → AllByRecursion P xs → AllByRecursion P ys → AllByRecursion P (xs ++ ys)
all_more P [] ys front back = back
all_more P (x ∷ xs) ys front back = (front.0, all_more P xs ys front.1 back)

-- what holds of all holds of those in front
pub all_front : {X : Type 0} (P : X → Type 0) (xs ys : List X) → AllByRecursion P (xs ++ ys) → AllByRecursion P xs
all_front P [] ys all = tt
all_front P (x ∷ xs) ys all = (all.0, all_front P xs ys all.1)

-- the segment with one more entry
abbrev pub with_entry : Segment → Entry → Segment
with_entry segment entry = record segment { entries = segment.entries ++ entry ∷ [] }

-- what no entry changes holds of each segment as before
pub all_joined : (P : Segment → Type 0) (segments : List Segment) (entry : Entry) → ((segment : Segment) → P segment → P (with_entry segment entry)) → AllByRecursion P segments → AllByRecursion P (joined segments entry)
all_joined P [] entry keeps all = tt
all_joined P (segment ∷ segments) entry keeps all =
    cond_both (has_segment segments entry.task) _ _ (AllByRecursion P)
    (λ t. (all.0, all_joined P segments entry keeps all.1))
    (λ f. cond_both (is_of entry.task segment) _ _ (AllByRecursion P) (λ t. (keeps segment all.0, all.1)) (λ f. all))

module _ (entry : Entry) where
  -- each segment makes its script's calls also with the next call of the newest one
  pub scripts_joined : (segments : List Segment) → AllByRecursion FollowsScript segments → IsNext (newest_script segments entry.task) entry → AllByRecursion FollowsScript (joined segments entry)
  scripts_joined [] all next = tt
  scripts_joined (segment ∷ segments) all next =
      elim (cases_Bool (has_segment segments entry.task)) [
        | inl later ↦ rw later (all.0, scripts_joined segments all.1 (rw later at next))
        | inr last ↦ elim (cases_Bool (is_of entry.task segment)) [
          | inl mine ↦ rw (last, mine) (follow_push (start_of segment.bodies segment.body) segment.entries entry all.0 (rw (last, mine) at next), all.1)
          | inr others ↦ rw (last, others) all
        ]
      ]

  -- the entry that joined was the newest script's next call
  pub next_joined : (segments : List Segment) → has_segment segments entry.task ≡ true → AllByRecursion FollowsScript (joined segments entry) → IsNext (newest_script segments entry.task) entry
  next_joined [] is all = absurd (false≢true is)
  next_joined (segment ∷ segments) is all =
      elim (cases_Bool (has_segment segments entry.task)) [
        | inl later ↦ rw later (next_joined segments later (rw later at all).1)
        | inr last ↦
            let mine : is_of entry.task segment ≡ true = first_of_or (is_of entry.task segment) (has_segment segments entry.task) is last in
            rw (last, mine) (follow_front (start_of segment.bodies segment.body) segment.entries entry (rw (last, mine) at all).0).1
      ]

  -- the scripts made their calls before it too
  pub scripts_before : (segments : List Segment) → AllByRecursion FollowsScript (joined segments entry) → AllByRecursion FollowsScript segments
  scripts_before [] all = tt
  scripts_before (segment ∷ segments) all =
      elim (cases_Bool (has_segment segments entry.task)) [
        | inl later ↦ let rest = rw later at all in (rest.0, scripts_before segments rest.1)
        | inr last ↦ elim (cases_Bool (is_of entry.task segment)) [
          | inl mine ↦ let rest = rw (last, mine) at all in ((follow_front (start_of segment.bodies segment.body) segment.entries entry rest.0).0, rest.1)
          | inr others ↦ rw (last, others) at all
        ]
      ]

  -- no segment follows of an identifier whose last one this is
  no_later : (segment : Segment) (segments : List Segment) → is_of entry.task segment ≡ true → has_segment segments entry.task ≡ false → has_segment segments segment.id ≡ true → ⊥
  no_later segment segments mine last again =
      let same : segment.id ≡ entry.task = eqb-true segment.id entry.task mine in
      false≢true (sym last ∙ ap (has_segment segments) (sym same) ∙ again)

  -- a segment whose identifier is created again does not change
  pub ends_joined : (segments : List Segment) → EndsBefore segments → EndsBefore (joined segments entry)
  ends_joined [] ends = tt
  ends_joined (segment ∷ segments) ends =
      elim (cases_Bool (has_segment segments entry.task)) [
        | inl later ↦ rw later (λ again. ends.0 (sym (has_joined segments entry segment.id) ∙ again), ends_joined segments ends.1)
        | inr last ↦ elim (cases_Bool (is_of entry.task segment)) [
          | inl mine ↦ rw (last, mine) (λ again. absurd (no_later segment segments mine last again), ends.1)
          | inr others ↦ rw (last, others) ends
        ]
      ]

  -- nor had it changed before
  pub ends_before : (segments : List Segment) → EndsBefore (joined segments entry) → EndsBefore segments
  ends_before [] ends = tt
  ends_before (segment ∷ segments) ends =
      elim (cases_Bool (has_segment segments entry.task)) [
        | inl later ↦
            let rest = rw later at ends in
            (λ again. rest.0 (has_joined segments entry segment.id ∙ again), ends_before segments rest.1)
        | inr last ↦ elim (cases_Bool (is_of entry.task segment)) [
          | inl mine ↦ let rest = rw (last, mine) at ends in (λ again. absurd (no_later segment segments mine last again), rest.1)
          | inr others ↦ rw (last, others) at ends
        ]
      ]

or_swap : (a b : Bool) → (a || b) ≡ true → (b || a) ≡ true
or_swap true b is = or_right b true refl
or_swap false b is = or_left b false is

-- an identifier is that of a segment
is_own : (id : ℕ) (new : Segment) → new.id ≡ id → is_of id new ≡ true
is_own id new same = grind (arith, nat_tests)

-- a segment whose identifier comes again at the end
again_last : (segment new : Segment) (segments : List Segment) → has_segment (segments ++ new ∷ []) segment.id ≡ true → has_segment segments segment.id ≡ false → new.id ≡ segment.id
again_last segment new segments again none =
    let more : has_segment (new ∷ []) segment.id ≡ true = first_of_or (has_segment (new ∷ []) segment.id) (has_segment segments segment.id) (or_swap (has_segment segments segment.id) (has_segment (new ∷ []) segment.id) (sym (has_more segments (new ∷ []) segment.id) ∙ again)) none in
    eqb-true new.id segment.id (first_of_or (is_of segment.id new) false more refl)

-- a segment at the end, behind one of its identifier that has come to its script's end
pub ends_push : (segments : List Segment) (new : Segment) → EndsBefore segments → is_ended (newest_script segments new.id).phase ≡ true → EndsBefore (segments ++ new ∷ [])
ends_push [] new ends ended = (λ again. absurd (false≢true again), tt)
ends_push (segment ∷ segments) new ends ended = (
  λ again. elim (cases_Bool (has_segment segments segment.id)) [
    | inl later ↦ ends.0 later
    | inr last ↦
        let same = again_last segment new segments again last in
        let none : has_segment segments new.id ≡ false = ap (has_segment segments) same ∙ last in
        let mine : is_of new.id segment ≡ true = is_own new.id segment (sym same) in rw (none, mine) at ended
  ],
  ends_push segments new ends.1 (elim (cases_Bool (has_segment segments new.id)) [
    | inl later ↦ rw later at ended
    | inr last ↦ rw (newest_none segments new.id last) refl
  ]),
)

-- the segment before it had come to its script's end
pub ends_last : (segments : List Segment) (new : Segment) → EndsBefore (segments ++ new ∷ []) → EndsBefore segments × (is_ended (newest_script segments new.id).phase ≡ true)
ends_last [] new ends = (tt, refl)
ends_last (segment ∷ segments) new ends =
    let rest = ends_last segments new ends.1 in (
      (λ again. ends.0 (has_more segments (new ∷ []) segment.id ∙ or_left _ _ again), rest.0),
      elim (cases_Bool (has_segment segments new.id)) [
        | inl later ↦ rw later rest.1
        | inr last ↦ elim (cases_Bool (is_of new.id segment)) [
          | inl mine ↦
              let own : is_of segment.id new ≡ true = is_own segment.id new (sym (eqb-true segment.id new.id mine)) in
              rw (last, mine) (ends.0 (has_more segments (new ∷ []) segment.id ∙ or_right _ _ (or_left _ _ own)))
          | inr others ↦ rw (last, others) refl
        ]
      ],
    )
