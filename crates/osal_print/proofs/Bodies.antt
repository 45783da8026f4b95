-- The text of some bodies: the first of them stands in front of the others.
use Rattle.std.proofs.Common.{◌≡◌, ◌+◌, ℕ, Some, List, ◌∷◌, ◌++◌, codes, drop, refl, ap, ◌∙◌}
use Rattle.std.specs.List.{flat_map, slice_get}
use Rattle.std.proofs.lemmas.Grind.{flat_map-append}
use Rattle.std.proofs.lemmas.List.{drop_more}
use Rattle.std.proofs.lemmas.Option.{slice_get_within, get_or_from_slice_get}
use Rattle.osal_script.specs.App.{ScriptBody, Application}
use Rattle.osal_print.specs.PrintText.{body_lines, body_name, ended_line, print_text}

-- the lines of some bodies of an application
abbrev pub bodies_text : Application → List ScriptBody → List ℕ
bodies_text app bodies = flat_map ended_line (flat_map (body_lines (body_name app)) bodies)

-- the text is its first line and the bodies
pub header_first : (app : Application) → codes "osal-app 1\n" ++ bodies_text app app.bodies ≡ print_text app
unfolding print_text
header_first app = refl

-- from a body on
pub body_first : (app : Application) (bodies : List ScriptBody) (at : ℕ) (body : ScriptBody) → slice_get bodies at ≡ Some body → bodies_text app (drop at bodies) ≡ flat_map ended_line (body_lines (body_name app) body) ++ bodies_text app (drop (at + 1) bodies)
body_first app bodies at body is =
    let next : drop at bodies ≡ body ∷ drop (at + 1) bodies =
    drop_more bodies at body (slice_get_within bodies at body is)
    ∙ ap (λ first. first ∷ drop (at + 1) bodies) (get_or_from_slice_get bodies at body body is) in
    ap (bodies_text app) next
    ∙ flat_map-append ended_line (body_lines (body_name app) body) (flat_map (body_lines (body_name app)) (drop (at + 1) bodies))
