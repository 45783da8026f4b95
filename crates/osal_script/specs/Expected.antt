-- What an application expects of the answer of the line with a number.
use Rattle.std.specs.Prelude.{◌==◌, List, [], ◌∷◌, ℕ, Option, None, if◌then◌else◌}
use Rattle.std.specs.Option.{option_or}
use Rattle.osal_line.specs.declared.expectation.Expect.{Expect}
use Rattle.osal_script.specs.declared.item.Item.{Item}
use Rattle.osal_script.specs.declared.item.Item.TheVariants as item
use Rattle.osal_script.specs.App.{Application, ScriptBody}

-- the expectation of the call line of that number among some items, where such a line has one
abbrev pub expected_in : ℕ → List Item → Option Expect
expected_in number [] = None
expected_in number (item.Call line ∷ items) =
    option_or (if line.number == number then line.expect else None) (expected_in number items)
expected_in number (item.Repeat count ∷ items) = expected_in number items
expected_in number (item.End ∷ items) = expected_in number items

-- the same among the items of some bodies
abbrev pub expected_among : ℕ → List ScriptBody → Option Expect
expected_among number [] = None
expected_among number (body ∷ bodies) = option_or (expected_in number body.items) (expected_among number bodies)

-- the expectation of the call line of that number
abbrev pub expected_of : Application → ℕ → Option Expect
expected_of app number = expected_among number app.bodies
