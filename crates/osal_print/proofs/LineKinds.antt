-- What a line that is read behind the header does, one record for each kind of line.
use Rattle.std.proofs.Common.{◌≡◌, ◌==◌, ◌+◌, ◌^◌, ◌||◌, ◌&&◌, ◌++◌, ℕ, List, [], ◌∷◌, Bool, true, false, Option, Some, None, length, codes, leb, ltb}
use Rattle.osal_call.specs.declared.word.CallWord.{CallWord}
use Rattle.osal_call.specs.Signature.{call_word}
use Rattle.osal_line.specs.declared.kind.BodyKind.{BodyKind}
use Rattle.osal_line.specs.declared.line.ScriptCall.{ScriptCall}
use Rattle.osal_line.specs.declared.expectation.Expect.{Expect}
use Rattle.osal_line.specs.declared.grammar.FirstWord.TheVariants as first
use Rattle.osal_line.specs.Values.{is_body_name, number_below}
use Rattle.osal_line.specs.Vocabulary.{first_word}
use Rattle.osal_line.specs.Registers.{Registers}
use Rattle.osal_line.specs.Declarations.{kind_of, declared_by}
use Rattle.osal_line.specs.Grammar.{call_of_words}
use Rattle.osal_line.specs.Expectation.{before_arrow, from_arrow, expectation_of}
use Rattle.osal_price.specs.Handlers.{is_handler, needs_task}
use Rattle.osal_script.specs.declared.item.Item.TheVariants as item
use Rattle.osal_script.specs.App.{ScriptBody}
use Rattle.osal_reading.specs.Draft.{OpenBody, Reading}
use Rattle.osal_reading.specs.Blocks.{is_taken, empty_body, end_block}
use Rattle.osal_reading.specs.Reading.{with_line, fault_of_call, is_comment}
use Rattle.osal_print.specs.PrintText.{kind_word}

-- what was read behind the header: some bodies, and maybe one that is open
abbrev pub behind : List ScriptBody → Option OpenBody → Reading
behind bodies current = record { header = true; bodies = bodies; open_body = current }

-- a line that is skipped
pub record Skips (bodies : List ScriptBody) (current : Option OpenBody) (words : List (List ℕ)) (after : Reading) : Type 0 where
  pub none : declared_by words ≡ None
  pub after_is : after ≡ behind bodies current

-- a line that begins a body
pub record Begins (bodies : List ScriptBody) (current : Option OpenBody) (words : List (List ℕ)) (after : Reading) : Type 0 where
  pub runs : BodyKind
  pub name : List ℕ
  pub words_are : words ≡ kind_word runs ∷ name ∷ []
  pub none_open : current ≡ None
  pub first : (is_handler runs && (length bodies == 0)) ≡ false
  pub named : is_body_name name ≡ true
  pub few : leb 64 (length bodies) ≡ false
  pub free : is_taken bodies name ≡ false
  pub after_is : after ≡ behind bodies (Some (empty_body runs name))

-- whether a repeat of so many times is one too many in a body, or its count is none
abbrev pub is_many : OpenBody → ℕ → Bool
is_many body times = ltb times 1 || ltb 100000 times || leb 4 body.repeats || leb 4096 body.count

-- a body with one more repeat
abbrev pub repeated : OpenBody → ℕ → OpenBody
repeated body times =
    record body {
      items = body.items ++ item.Repeat times ∷ [];
      count = body.count + 1;
      repeats = body.repeats + 1;
    }

-- a line that begins a repeat
pub record Repeats (bodies : List ScriptBody) (current : Option OpenBody) (words : List (List ℕ)) (after : Reading) : Type 0 where
  pub body : OpenBody
  pub count : List ℕ
  pub times : ℕ
  pub words_are : words ≡ codes "repeat" ∷ count ∷ []
  pub is_open : current ≡ Some body
  pub in_task : is_handler body.kind ≡ false
  pub times_are : number_below (2 ^ 32) count ≡ Some times
  pub few : is_many body times ≡ false
  pub after_is : after ≡ behind bodies (Some (repeated body times))

-- a line that ends a repeat or a body
pub record Ends (bodies : List ScriptBody) (current : Option OpenBody) (words : List (List ℕ)) (after : Reading) : Type 0 where
  pub body : OpenBody
  pub words_are : words ≡ codes "end" ∷ []
  pub is_open : current ≡ Some body
  pub after_is : after ≡ end_block (behind bodies current) body

-- a call line
pub record Calls (later : BodyKind → List ℕ → Option ℕ) (bodies : List ScriptBody) (current : Option OpenBody) (number : ℕ) (words : List (List ℕ)) (after : Reading) : Type 0 where
  pub body : OpenBody
  pub word : List ℕ
  pub called : CallWord
  pub arguments : List (List ℕ)
  pub call : ScriptCall
  pub registers : Registers
  pub expect : Option Expect
  pub words_are : words ≡ word ∷ arguments
  pub no_kind : kind_of word ≡ None
  pub called_is : call_word word ≡ Some called
  pub no_comment : is_comment word ≡ false
  pub first_is : first_word word ≡ Some (first.Call called)
  pub is_open : current ≡ Some body
  pub may : (is_handler body.kind && needs_task called) ≡ false
  pub call_is : call_of_words later called (before_arrow arguments) body.registers ≡ Some (call, registers)
  pub expect_is : expectation_of (from_arrow arguments) ≡ Some expect
  pub faultless : fault_of_call body (call, registers) ≡ None
  pub after_is : after ≡ behind bodies (Some (with_line body number (call, registers) expect))

-- what a line does
pub data LineKind (later : BodyKind → List ℕ → Option ℕ) (bodies : List ScriptBody) (current : Option OpenBody) (number : ℕ) (words : List (List ℕ)) (after : Reading) : Type 0 where
  skips : Skips bodies current words after → LineKind later bodies current number words after
  begins : Begins bodies current words after → LineKind later bodies current number words after
  repeats : Repeats bodies current words after → LineKind later bodies current number words after
  ends : Ends bodies current words after → LineKind later bodies current number words after
  calls : Calls later bodies current number words after → LineKind later bodies current number words after
