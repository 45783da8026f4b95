-- What holds of each line of the bodies holds of each line that is still to come in a script.
use Rattle.std.proofs.Common.{◌≡◌, ◌&&◌, ℕ, zero, suc, List, [], ◌∷◌, map, Option, Some, None, slice_get, refl}
use Rattle.std.specs.List.{AllByRecursion}
use Rattle.std.proofs.lemmas.Bool.{cond_both}
use Rattle.osal_base.specs.Reply.{Replied, is_waits}
use Rattle.osal_call.specs.declared.call.Call.{Call}
use Rattle.osal_call.specs.Firing.{timer_limit}
use Rattle.osal_line.specs.declared.kind.BodyKind.{BodyKind}
use Rattle.osal_line.specs.declared.kind.BodyKind.TheVariants as kind
use Rattle.osal_line.specs.declared.line.Line.{Line}
use Rattle.osal_line.specs.Bare.{is_tick_line}
use Rattle.osal_script.specs.declared.item.Item.{Item}
use Rattle.osal_script.specs.declared.item.Item.TheVariants as item
use Rattle.osal_script.specs.declared.phase.Phase.{Phase}
use Rattle.osal_script.specs.declared.phase.Phase.TheVariants as phase
use Rattle.osal_script.specs.App.{ScriptBody, times, first_of_levels, onto_level, repeated, levels_of, lines_of}
use Rattle.osal_script.specs.Script.{Pending, Frames, ScriptState, in_body, in_handler, of_handler, handler_numbers, lines_if_handler, handler_lines, put_in, is_of_body, is_success, fired, is_checkpoint, after_answer, after_in}
use Rattle.osal_runs.proofs.Joining.{all_more}

module _ (P : Line → Type 0) where
  -- what holds of each line of each level
  abbrev pub OfLevels : List (List Line) → Type 0
  OfLevels levels = AllByRecursion (AllByRecursion P) levels

  times_all : (n : ℕ) (level : List Line) → AllByRecursion P level → AllByRecursion P (times n level)
  times_all zero level all = tt
  times_all (suc n) level all = all_more P level (times n level) all (times_all n level all)

  onto_all : (line : Line) (levels : List (List Line)) → P line → OfLevels levels → OfLevels (onto_level line levels)
  onto_all line [] holds all = ((holds, tt), tt)
  onto_all line (level ∷ levels) holds all = ((holds, all.0), all.1)

  repeated_all : (n : ℕ) (levels : List (List Line)) → OfLevels levels → OfLevels (repeated n levels)
  repeated_all n [] all = tt
  repeated_all n (level ∷ []) all = (times_all n level all.0, tt)
  repeated_all n (level ∷ around ∷ levels) all = (all_more P (times n level) around (times_all n level all.0) all.1.0, all.1.1)

  -- what holds of each call line among the items
  abbrev pub OfItem : Item → Type 0
  OfItem (item.Call line) = P line
  OfItem (item.Repeat count) = Unit {0}
  OfItem item.End = Unit {0}

  levels_all : (items : List Item) → AllByRecursion OfItem items → OfLevels (levels_of items)
  levels_all [] all = (tt, tt)
  levels_all (item.Call line ∷ items) all = onto_all line (levels_of items) all.0 (levels_all items all.1)
  levels_all (item.Repeat count ∷ items) all = repeated_all count (levels_of items) (levels_all items all.1)
  levels_all (item.End ∷ items) all = (tt, levels_all items all.1)

  first_all : (levels : List (List Line)) → OfLevels levels → AllByRecursion P (first_of_levels levels)
  first_all [] all = tt
  first_all (level ∷ levels) all = all.0

  -- what holds of each call line of a body holds of its lines with the repeats written out
  pub lines_all : (body : ScriptBody) → AllByRecursion OfItem body.items → AllByRecursion P (lines_of body)
  lines_all body all = first_all (levels_of body.items) (levels_all body.items all)

  -- what holds of each line of each of some bodies
  abbrev pub EachLine : List ScriptBody → Type 0
  EachLine bodies =
      (number : ℕ) (body : ScriptBody) → slice_get bodies number ≡ Some body → AllByRecursion P (lines_of body)

  -- what holds of each line that is still to come
  abbrev pub OfPending : List Pending → Type 0
  OfPending pending = AllByRecursion (λ (next : Pending). P next.line) pending

  -- the lines of a body itself
  pub in_body_all : (lines : List Line) → AllByRecursion P lines → OfPending (map in_body lines)
  in_body_all [] all = tt
  in_body_all (line ∷ lines) all = (all.0, in_body_all lines all.1)

  in_handler_all : (lines : List Line) → AllByRecursion P lines → OfPending (map in_handler lines)
  in_handler_all [] all = tt
  in_handler_all (line ∷ lines) all = (all.0, in_handler_all lines all.1)

  of_handler_all : (lines : List Line) → AllByRecursion P lines → OfPending (of_handler lines)
  of_handler_all [] all = tt
  of_handler_all (line ∷ lines) all = (all.0, in_handler_all lines all.1)

  if_handler_all : (kind : BodyKind) (body : ScriptBody) → AllByRecursion P (lines_of body) → OfPending (lines_if_handler kind body)
  if_handler_all kind.Handler body all = of_handler_all (lines_of body) all
  if_handler_all kind.Task body all = tt

  handler_all : (o : Option ScriptBody) → ((body : ScriptBody) → o ≡ Some body → AllByRecursion P (lines_of body)) → OfPending (handler_lines o)
  handler_all None each = tt
  handler_all (Some body) each = if_handler_all body.kind body (each body refl)

  module _ (bodies : List ScriptBody) (each : EachLine bodies) where
    put_in_all : (numbers : List ℕ) → OfPending (put_in bodies numbers)
    put_in_all [] = tt
    put_in_all (number ∷ numbers) =
        all_more (λ (next : Pending). P next.line) (handler_lines (slice_get bodies number)) (put_in bodies numbers) (handler_all (slice_get bodies number) (each number)) (put_in_all numbers)

    fired_all : (next : Pending) (reply : Replied) → OfPending (fired bodies next reply)
    fired_all next reply =
        cond_both (is_of_body next.frame && is_tick_line next.line.call && is_success reply.answer) _ _ OfPending
        (λ t. put_in_all (handler_numbers timer_limit reply.bytes)) (λ f. tt)

    answer_all : (pending : List Pending) (frames : Frames) (reply : Replied) → OfPending pending → OfPending (after_answer bodies pending frames reply).pending
    answer_all [] frames reply all = tt
    answer_all (next ∷ pending) frames reply all =
        all_more (λ (next : Pending). P next.line) (fired bodies next reply) pending (fired_all next reply) all.1

  -- the lines that are still to come behind a call
  pub after_all : (at : Phase) (from : ScriptState) (made : Call) (reply : Replied) → EachLine from.bodies → OfPending from.pending → OfPending (after_in at from made reply).pending
  after_all phase.Before from made reply each all = all
  after_all phase.At from made reply each all =
      cond_both (is_waits reply.answer) _ _ (λ (s : ScriptState). OfPending s.pending) (λ t. all) (λ f. answer_all from.bodies each from.pending from.frames reply all)
  after_all (phase.Waiting part) from made reply each all =
      cond_both (is_checkpoint made) _ _ (λ (s : ScriptState). OfPending s.pending) (λ t. all) (λ f. answer_all from.bodies each from.pending from.frames reply all)
  after_all (phase.Leaving part) from made reply each all = all
  after_all phase.Ended from made reply each all = all
