-- The selects as steps that may have to wait; the streams of two sets are active and apart where both sets are active.
use Rattle.std.proofs.Common.{◌≡◌, ◌==◌, ◌&&◌, ◌||◌, ◌+◌, ℕ, Bool, true, false, not, List, [], ◌∷◌, length, is_some, refl, sym, ap, ◌∙◌, arith}
use Rattle.std.proofs.lemmas.Bool.{cond_both, both_ways, and_parts, or_left, or_right, not-false, eqb-true, eq-eqb}
use Rattle.osal_base.specs.declared.arguments.Mode.{Mode}
use Rattle.osal_base.specs.declared.status.Status.TheVariants as status
use Rattle.osal_base.specs.declared.time.Timeout.{Timeout}
use Rattle.osal_object.specs.Moves.{AreApart}
use Rattle.osal_object.proofs.Moves.{either}
use Rattle.osal_select.specs.Sets.{is_in, joined, streams_of, AscendFrom, Ascend}
use Rattle.osal_select.specs.Selects.{ready_number, readable_of, writable_of}
use Rattle.osal_select.proofs.Orders.{absent_below, joined_ascends, is_in_joined}
use Rattle.osal_io.specs.Io.{IoState, stream_at}
use Rattle.osal_io.specs.Select.{ready_of, ready_stream, one_now, are_active, found_some, multi_now}
use Rattle.osal_io.proofs.Tried.{Tries, refuses, finds_tries, tells, stream_tries}

-- the streams of two sets ascend
pub streams_ascend : (reads writes : List ℕ) → Ascend (streams_of reads writes)
streams_ascend reads writes = joined_ascends (joined [] reads) writes (joined_ascends [] reads tt)

-- they are those of both sets
pub in_streams_of : (id : ℕ) (reads writes : List ℕ) → is_in id (streams_of reads writes) ≡ (is_in id reads || is_in id writes)
in_streams_of id reads writes =
    is_in_joined id (joined [] reads) writes ∙ ap (λ b. b || is_in id writes) (is_in_joined id [] reads)

-- of two sets, one of which has it
one_has : (a b : Bool) {P : Type 0} → (a ≡ true → P) → (b ≡ true → P) → (a || b) ≡ true → P
one_has true b first second one = first refl
one_has false b first second one = second one

module _ (io : IoState) where
  -- a stream of a set whose streams are active is active
  active_in : (id : ℕ) (set : List ℕ) → are_active io set ≡ true → is_in id set ≡ true → is_some (stream_at io id) ≡ true
  active_in id [] all one = absurd (both_ways false refl one)
  active_in id (other ∷ set) all one =
      let both = and_parts (is_some (stream_at io other)) (are_active io set) all in
      one_has (other == id) (is_in id set)
      (λ same. ap (λ k. is_some (stream_at io k)) (sym (eqb-true other id same)) ∙ both.0)
      (λ later. active_in id set both.1 later) one

  -- streams in ascending order, each of which is active, are apart
  ascending_apart : (least : ℕ) (ids : List ℕ) → AscendFrom least ids → ((id : ℕ) → is_in id ids ≡ true → is_some (stream_at io id) ≡ true) → AreApart io.streams.table ids
  ascending_apart least [] up all = tt
  ascending_apart least (id ∷ ids) up all = (
    all id (or_left (id == id) (is_in id ids) (eq-eqb id id refl)),
    absent_below id (1 + id) ids (omega arith) up.1,
    ascending_apart (1 + id) ids up.1 (λ one there. all one (or_right (id == one) (is_in one ids) there)),
  )

  -- the streams of two sets whose streams are active
  both_apart : (reads writes : List ℕ) → are_active io reads ≡ true → are_active io writes ≡ true → AreApart io.streams.table (streams_of reads writes)
  both_apart reads writes of_reads of_writes =
      ascending_apart 0 (streams_of reads writes) (streams_ascend reads writes)
      (λ id there.
      one_has (is_in id reads) (is_in id writes) (active_in id reads of_reads) (active_in id writes of_writes)
      (sym (in_streams_of id reads writes) ∙ there))

  -- a select of one stream
  pub one_tries : (id : ℕ) (asked : Mode) (wait : Timeout) → Tries io wait (id ∷ []) (one_now io id asked wait)
  one_tries id asked wait =
      stream_tries io wait id _ (λ what apart.
      either (Tries io wait (id ∷ [])) (ready_number asked (ready_stream io id what) == 0) _ _
      (finds_tries io wait (id ∷ []) apart) (tells io wait (id ∷ []) _ refl refl))

  some_tries : (wait : Timeout) (on : List ℕ) → AreApart io.streams.table on → (reads writes : List ℕ) → Tries io wait on (found_some io wait reads writes)
  some_tries wait on apart reads writes =
      either (Tries io wait on) ((length reads == 0) && (length writes == 0)) _ _
      (finds_tries io wait on apart) (tells io wait on _ refl refl)

  -- a select of two sets
  pub multi_tries : (reads writes : List ℕ) (wait : Timeout) → Tries io wait (streams_of reads writes) (multi_now io reads writes wait)
  multi_tries reads writes wait =
      let on = streams_of reads writes in
      either (Tries io wait on) ((length reads == 0) && (length writes == 0)) _ _ (refuses io wait on status.ErrInvalidArgument)
      (cond_both (not (are_active io reads && are_active io writes)) _ _ (Tries io wait on)
      (λ gone. refuses io wait on status.ErrInvalidId)
      (λ active.
      let both = and_parts (are_active io reads) (are_active io writes) (not-false (are_active io reads && are_active io writes) active) in
      some_tries wait on (both_apart reads writes both.0 both.1) (readable_of (ready_of io) reads) (writable_of (ready_of io) writes)))
