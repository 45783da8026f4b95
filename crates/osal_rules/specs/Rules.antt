-- The rules of a line, one predicate for each, and the first that a line breaks.
use Rattle.std.specs.Prelude.{◌==◌, ◌||◌, ◌&&◌, List, [], ◌∷◌, ℕ, Bool, true, false, not, Option, Some, find, length, nat_lt, nat_le, slice_get, is_some, is_none}
use Rattle.std.specs.List.{list_any, list_all}
use Rattle.std.specs.Str.{bytes_eq}
use Rattle.osal_line.specs.declared.grammar.FirstWord.{FirstWord}
use Rattle.osal_line.specs.declared.grammar.FirstWord.TheVariants as first
use Rattle.osal_line.specs.Words.{is_line_byte}
use Rattle.osal_line.specs.Expectation.{from_arrow, expectation_of}
use Rattle.osal_price.specs.Handlers.{needs_task, may_wait}
use Rattle.osal_reading.specs.declared.fault.FaultKind.{FaultKind}
use Rattle.osal_reading.specs.declared.fault.FaultKind.TheVariants as fault
use Rattle.osal_reading.specs.Reading.{is_header}
use Rattle.osal_rules.specs.Before.{Before, is_some_and, is_open, in_handler, begun}
use Rattle.osal_rules.specs.At.{At, words, is_skipped, counts, what_it_is, arguments, name_in, number_in, call_in}

-- it has more than 255 bytes
abbrev pub breaks_long : At → Bool
breaks_long at = nat_lt 255 (length at.line)

-- a byte may not stand in a line
abbrev pub breaks_byte : At → Bool
breaks_byte at = not (list_all is_line_byte at.line)

-- no header stands before it, and it is none
abbrev pub breaks_header : At → Bool
breaks_header at = not (is_skipped (words at)) && not at.before.header && not (is_header (words at))

-- no line begins with its first word
abbrev pub breaks_word : At → Bool
breaks_word at = counts at && is_none (what_it_is at)

-- whether a line that is this may not stand here
abbrev pub is_misplaced : Before → Option FirstWord → Bool
is_misplaced before (Some first.Header) = true
is_misplaced before (Some first.Task) = is_open before
is_misplaced before (Some first.Handler) = is_open before || (begun before == 0)
is_misplaced before (Some first.Repeat) = not (is_open before) || in_handler before
is_misplaced before (Some first.End) = not (is_open before)
is_misplaced before (Some (first.Call word)) = not (is_open before) || (in_handler before && needs_task word)
is_misplaced before other = false

-- it may not stand here
abbrev pub breaks_place : At → Bool
breaks_place at = counts at && is_misplaced at.before (what_it_is at)

-- whether these are no arguments of a line that is this
abbrev pub is_ill_formed : At → List (List ℕ) → Option FirstWord → Bool
is_ill_formed at arguments (Some first.Task) = is_none (name_in arguments)
is_ill_formed at arguments (Some first.Handler) = is_none (name_in arguments)
is_ill_formed at arguments (Some first.Repeat) = is_none (number_in arguments)
is_ill_formed at arguments (Some first.End) = is_some (slice_get arguments 0)
is_ill_formed at arguments (Some (first.Call word)) =
    is_none (call_in at arguments word)
    || is_none (expectation_of (from_arrow arguments))
    || (in_handler at.before && is_some_and (λ call. may_wait call.0) (call_in at arguments word))
is_ill_formed at arguments other = false

-- the number or the form of its arguments is wrong
abbrev pub breaks_argument : At → Bool
breaks_argument at = counts at && is_ill_formed at (arguments at) (what_it_is at)

-- whether four repeats are open
abbrev pub is_deep : Before → Bool
is_deep before = is_some_and (λ body. nat_le 4 body.repeats) before.open_body

-- whether the open body has 4,096 items
abbrev pub is_full : Before → Bool
is_full before = is_some_and (λ body. nat_le 4096 body.items) before.open_body

-- whether a line that is this passes a limit: of bodies, of a repeat's times, of open repeats, of items, of registers
abbrev pub is_too_many : At → List (List ℕ) → Option FirstWord → Bool
is_too_many at arguments (Some first.Task) = nat_le 64 (length at.before.bodies)
is_too_many at arguments (Some first.Handler) = nat_le 64 (length at.before.bodies)
is_too_many at arguments (Some first.Repeat) =
    is_some_and (λ times. nat_lt times 1 || nat_lt 100000 times) (number_in arguments)
    || is_deep at.before
    || is_full at.before
is_too_many at arguments (Some (first.Call word)) =
    is_some_and (λ call. call.1.over) (call_in at arguments word) || is_full at.before
is_too_many at arguments other = false

-- it passes a limit
abbrev pub breaks_many : At → Bool
breaks_many at = counts at && is_too_many at (arguments at) (what_it_is at)

-- whether a body that is done has the name
abbrev pub is_taken : Before → List ℕ → Bool
is_taken before name = list_any (λ other. bytes_eq other name) before.bodies

-- whether the body that a line begins has a name that is taken, or one that it names is not declared later
abbrev pub is_wrong_body : At → List (List ℕ) → Option FirstWord → Bool
is_wrong_body at arguments (Some first.Task) = is_some_and (is_taken at.before) (name_in arguments)
is_wrong_body at arguments (Some first.Handler) = is_some_and (is_taken at.before) (name_in arguments)
is_wrong_body at arguments (Some (first.Call word)) =
    is_some_and (λ call. call.1.undeclared) (call_in at arguments word)
is_wrong_body at arguments other = false

-- its body's name is taken, or a body that it names is not declared later
abbrev pub breaks_body : At → Bool
breaks_body at = counts at && is_wrong_body at (arguments at) (what_it_is at)

-- whether a line breaks a rule; the last is a rule of the end of a text
abbrev pub breaks : FaultKind → At → Bool
breaks fault.Long at = breaks_long at
breaks fault.Byte at = breaks_byte at
breaks fault.Header at = breaks_header at
breaks fault.Word at = breaks_word at
breaks fault.Place at = breaks_place at
breaks fault.Argument at = breaks_argument at
breaks fault.Many at = breaks_many at
breaks fault.Body at = breaks_body at
breaks fault.End at = false

-- the rules of a line, in the order in which they are told
abbrev pub rules : List FaultKind
rules =
    fault.Long ∷ fault.Byte ∷ fault.Header ∷ fault.Word ∷ fault.Place ∷ fault.Argument ∷ fault.Many ∷ fault.Body ∷ []

-- the first rule that a line breaks
abbrev pub broken : At → Option FaultKind
broken at = find (λ rule. breaks rule at) rules
