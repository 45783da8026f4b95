-- The flags and other choices of a call are read again from their words.
use Rattle.std.proofs.Common.{◌≡◌, ℕ, true, cond, List, length, bytes_eq, Option, Some, None, refl, ap, subst, arith}
use Rattle.std.proofs.lemmas.Bool.{cond_both}
use Rattle.std.proofs.lemmas.Option.{none-some, same_Some}
use Rattle.std.proofs.lemmas.Slice.Eq.{bytes_eq-Decides}
use Rattle.osal_base.specs.declared.arguments.Access.{Access}
use Rattle.osal_base.specs.declared.arguments.Access.TheVariants as access
use Rattle.osal_base.specs.declared.arguments.How.{How}
use Rattle.osal_base.specs.declared.arguments.How.TheVariants as how
use Rattle.osal_base.specs.declared.arguments.Mode.{Mode}
use Rattle.osal_base.specs.declared.arguments.Mode.TheVariants as mode
use Rattle.osal_base.specs.declared.arguments.OpenFlags.{OpenFlags}
use Rattle.osal_base.specs.declared.arguments.OpenFlags.TheVariants as flags
use Rattle.osal_base.specs.declared.arguments.SockKind.{SockKind}
use Rattle.osal_base.specs.declared.arguments.SockKind.TheVariants as kind
use Rattle.osal_base.specs.declared.arguments.Whence.{Whence}
use Rattle.osal_base.specs.declared.arguments.Whence.TheVariants as whence
use Rattle.osal_journal.specs.Spelled.{flags_text, access_text, whence_text, kind_text, ways_text, ready_text}
use Rattle.osal_line.specs.Choices.{flags_of, access_of, whence_of}
use Rattle.osal_line.specs.Sockets.{sock_kind_of, how_of}
use Rattle.osal_line.specs.Selects.{mode_of}
use Rattle.osal_print.proofs.Shown.{Shows, Shown}
use Rattle.osal_print.proofs.Bytes.{is_plain, plain_word}

-- what is found among a few words
module _ {A : Type 0} (read : List ℕ → Option A) (text_of : A → List ℕ) (word : List ℕ) (value : A) where
  -- one of them, or another
  pub one : (named : A) (others : Option A) → read (text_of named) ≡ Some named → is_plain (text_of named) ≡ true → Shown read text_of word value others → Shown read text_of word value (cond (bytes_eq word (text_of named)) (Some named) others)
  one named others again plain other =
      cond_both (bytes_eq word (text_of named)) (Some named) others (Shown read text_of word value)
      (λ is found.
      let same = (bytes_eq-Decides word (text_of named)).0 is in
      subst (λ (v : A). Shows read v (text_of v) word) (same_Some named value found)
      (record { again = again; fit = plain_word (text_of named) plain; shorter = omega (arith, ap length same) }))
      (λ _. other)

  -- none of them
  none : Shown read text_of word value None
  none found = absurd (none-some value found)

-- what an opening does to the file
pub flags_again : (word : List ℕ) (value : OpenFlags) → flags_of word ≡ Some value → Shows flags_of value (flags_text value) word
flags_again word value =
    one flags_of flags_text word value flags.Neither _ refl refl
    (one flags_of flags_text word value flags.Create _ refl refl
    (one flags_of flags_text word value flags.Truncate _ refl refl
    (one flags_of flags_text word value flags.Both _ refl refl
    (none flags_of flags_text word value))))

-- what a file is opened for
pub access_again : (word : List ℕ) (value : Access) → access_of word ≡ Some value → Shows access_of value (access_text value) word
access_again word value =
    one access_of access_text word value access.Ro _ refl refl
    (one access_of access_text word value access.Wo _ refl refl
    (one access_of access_text word value access.Rw _ refl refl
    (none access_of access_text word value)))

-- from where a seek counts
pub whence_again : (word : List ℕ) (value : Whence) → whence_of word ≡ Some value → Shows whence_of value (whence_text value) word
whence_again word value =
    one whence_of whence_text word value whence.Set _ refl refl
    (one whence_of whence_text word value whence.Cur _ refl refl
    (one whence_of whence_text word value whence.End _ refl refl
    (none whence_of whence_text word value)))

-- what a socket carries
pub kind_again : (word : List ℕ) (value : SockKind) → sock_kind_of word ≡ Some value → Shows sock_kind_of value (kind_text value) word
kind_again word value =
    one sock_kind_of kind_text word value kind.Stream _ refl refl
    (one sock_kind_of kind_text word value kind.Dgram _ refl refl
    (none sock_kind_of kind_text word value))

-- which ways are shut down
pub ways_again : (word : List ℕ) (value : How) → how_of word ≡ Some value → Shows how_of value (ways_text value) word
ways_again word value =
    one how_of ways_text word value how.Read _ refl refl
    (one how_of ways_text word value how.Write _ refl refl
    (one how_of ways_text word value how.Both _ refl refl
    (none how_of ways_text word value)))

-- what a select waits for
pub ready_again : (word : List ℕ) (value : Mode) → mode_of word ≡ Some value → Shows mode_of value (ready_text value) word
ready_again word value =
    one mode_of ready_text word value mode.R _ refl refl
    (one mode_of ready_text word value mode.W _ refl refl
    (one mode_of ready_text word value mode.Rw _ refl refl
    (none mode_of ready_text word value)))
