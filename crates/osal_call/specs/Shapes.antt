-- Arguments by what they are: those that the code has, and the shapes that most calls share.
use Rattle.std.specs.Prelude.{◌==◌, Bool, true, false, List, [], ◌∷◌, ℕ, length}
use Rattle.osal_call.specs.declared.argument.Argument.{Argument as Given}
use Rattle.osal_call.specs.declared.argument.Argument.TheVariants as given
use Rattle.osal_call.specs.declared.argument.Arguments.{Arguments}
use Rattle.osal_call.specs.declared.argument.Arguments.TheVariants as some
use Rattle.osal_call.specs.Argument.{Argument, Text, Id, Number, Offset, Wait, Flags, Use, From, Kind, Ways, Ready, Streams}

-- an argument by what it says
abbrev pub meant : Given → Argument
meant (given.Text text) = Text text.now.bytes
meant (given.Id id) = Id id
meant (given.Number number) = Number number
meant (given.Offset offset) = Offset offset
meant (given.Wait wait) = Wait wait
meant (given.Flags flags) = Flags flags
meant (given.Access access) = Use access
meant (given.Whence whence) = From whence
meant (given.Kind kind) = Kind kind
meant (given.How how) = Ways how
meant (given.Mode mode) = Ready mode
meant (given.Streams set) = Streams set.now

-- the arguments of a call by what they say, in their order
abbrev pub all_meant : Arguments → List Argument
all_meant some.None = []
all_meant (some.One first) = meant first ∷ []
all_meant (some.Two first second) = meant first ∷ meant second ∷ []
all_meant (some.Three first second third) = meant first ∷ meant second ∷ meant third ∷ []
all_meant (some.Four first second third fourth) = meant first ∷ meant second ∷ meant third ∷ meant fourth ∷ []

-- whether there is an identifier in front of that many more
abbrev pub is_id_before : ℕ → List Argument → Bool
is_id_before more (Id id ∷ arguments) = length arguments == more
is_id_before more other = false

-- whether there is a text alone
abbrev pub is_text : List Argument → Bool
is_text (Text text ∷ []) = true
is_text other = false

-- whether there is a number alone
abbrev pub is_number : List Argument → Bool
is_number (Number number ∷ []) = true
is_number other = false

-- whether there is nothing
abbrev pub is_bare : List Argument → Bool
is_bare [] = true
is_bare other = false
