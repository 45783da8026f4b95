-- The calls that name no register and carry no payload are read again.
use Rattle.std.proofs.Common.{◌≤◌, ◌^◌, ℕ, List, [], ◌∷◌, length, Option, refl}
use Rattle.std.specs.Fmt.{decimal}
use Rattle.osal_call.specs.declared.word.CallWord.{CallWord}
use Rattle.osal_call.specs.declared.word.CallWord.TheVariants as word
use Rattle.osal_call.specs.declared.word.text.PathWord.{PathWord}
use Rattle.osal_call.specs.declared.word.pair.PathsWord.{PathsWord}
use Rattle.osal_call.specs.declared.word.bare.BareWord.{BareWord}
use Rattle.osal_line.specs.declared.kind.BodyKind.{BodyKind}
use Rattle.osal_line.specs.declared.line.ScriptCall.{ScriptCall}
use Rattle.osal_line.specs.declared.line.ScriptCall.TheVariants as script
use Rattle.osal_line.specs.Values.{number_below, string_of}
use Rattle.osal_line.specs.Registers.{Registers}
use Rattle.osal_line.specs.Arguments.{strings_of}
use Rattle.osal_line.specs.Tasks.{without_register, task_exit_of, task_delay_of}
use Rattle.osal_line.specs.Consoles.{bare_call_of}
use Rattle.osal_line.specs.Files.{path_call_of, paths_call_of, mkfs_of}
use Rattle.osal_print.specs.Shortest.{string_text}
use Rattle.osal_print.proofs.IsWord.{AreClean}
use Rattle.osal_print.proofs.StringsAgain.{string_again}
use Rattle.osal_print.proofs.Pairs.{pair_parts}
use Rattle.osal_print.proofs.CallAgain.{IsReadAgain, given, mapped, is_for, call_for}
use Rattle.osal_print.proofs.RegisterCalls.{numbers}

module _ (printed : BodyKind → List ℕ → Option ℕ) (names : ℕ → List ℕ) (before : Registers) (few : length before.names ≤ 32) where
  -- what was read of a call that names no register
  abbrev Again : CallWord → List (List ℕ) → Option ScriptCall → Type 0
  Again called words found = IsReadAgain printed names called words before (without_register before found)

  -- a call with a path
  pub path_again : (called : PathWord) (words : List (List ℕ)) → AreClean words → Again (word.Path called) words (path_call_of called words)
  path_again called [] clean = tt
  path_again called (path ∷ []) clean =
      mapped (Again (word.Path called) (path ∷ [])) (string_of path) (λ text. script.Path called text) tt (λ text text-is told known.
      let shown = string_again path text clean.0 text-is in
      call_for printed names (word.Path called) (path ∷ []) before before (script.Path called text) refl few
      (is_for (string_text text) path shown, tt)
      (rw shown.again refl))
  path_again called (a ∷ b ∷ words) clean = tt

  -- a call with two paths
  pub paths_again : (called : PathsWord) (words : List (List ℕ)) → AreClean words → Again (word.Paths called) words (paths_call_of called words)
  paths_again called [] clean = tt
  paths_again called (a ∷ []) clean = tt
  paths_again called (path ∷ to ∷ []) clean =
      mapped (Again (word.Paths called) (path ∷ to ∷ [])) (strings_of path to) (λ both. script.Paths called both.0 both.1) tt (λ both both-are told known.
      let parts = pair_parts (string_of path) (string_of to) both both-are in
      let first = string_again path both.0 clean.0 parts.0 in
      let second = string_again to both.1 clean.1.0 parts.1 in
      call_for printed names (word.Paths called) (path ∷ to ∷ []) before before (script.Paths called both.0 both.1) refl few
      (is_for (string_text both.0) path first, (is_for (string_text both.1) to second, tt))
      (rw (first.again, second.again) refl))
  paths_again called (a ∷ b ∷ c ∷ words) clean = tt

  -- a volume that is made
  pub mkfs_again : (words : List (List ℕ)) → AreClean words → Again word.Mkfs words (mkfs_of words)
  mkfs_again [] clean = tt
  mkfs_again (a ∷ []) clean = tt
  mkfs_again (a ∷ b ∷ []) clean = tt
  mkfs_again (device ∷ label ∷ blocks ∷ []) clean =
      given (Again word.Mkfs (device ∷ label ∷ blocks ∷ [])) (strings_of device label) _ tt (λ both both-are.
      given (Again word.Mkfs (device ∷ label ∷ blocks ∷ [])) (number_below (2 ^ 32) blocks) _ tt (λ count count-is told known.
      let parts = pair_parts (string_of device) (string_of label) both both-are in
      let first = string_again device both.0 clean.0 parts.0 in
      let second = string_again label both.1 clean.1.0 parts.1 in
      let third = numbers.shown blocks count count-is in
      call_for printed names word.Mkfs (device ∷ label ∷ blocks ∷ []) before before (script.Mkfs both.0 both.1 count) refl few
      (is_for (string_text both.0) device first, (is_for (string_text both.1) label second, (is_for (decimal count) blocks third, tt)))
      (rw (first.again, second.again, third.again) refl)))
  mkfs_again (a ∷ b ∷ c ∷ d ∷ words) clean = tt

  -- a call without arguments
  pub bare_again : (called : BareWord) (words : List (List ℕ)) → Again (word.Bare called) words (bare_call_of called words)
  bare_again called [] = λ told known. call_for printed names (word.Bare called) [] before before (script.Bare called) refl few tt refl
  bare_again called (a ∷ words) = tt

  -- an exit
  pub exit_again : (words : List (List ℕ)) → Again word.TaskExit words (task_exit_of words)
  exit_again [] = λ told known. call_for printed names word.TaskExit [] before before script.TaskExit refl few tt refl
  exit_again (a ∷ words) = tt

  -- a delay
  pub delay_again : (words : List (List ℕ)) → Again word.TaskDelay words (task_delay_of words)
  delay_again [] = tt
  delay_again (ms ∷ []) =
      mapped (Again word.TaskDelay (ms ∷ [])) (number_below (2 ^ 32) ms) (λ n. script.TaskDelay n) tt (λ n n-is told known.
      let shown = numbers.shown ms n n-is in
      call_for printed names word.TaskDelay (ms ∷ []) before before (script.TaskDelay n) refl few
      (is_for (decimal n) ms shown, tt)
      (rw shown.again refl))
  delay_again (a ∷ b ∷ words) = tt
