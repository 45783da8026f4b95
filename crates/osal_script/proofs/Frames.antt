-- The registers that the next line uses, and the call that it makes with them.
use Rattle.std.proofs.Common.{◌≡◌, ◌++◌, ◌∙◌, ℕ, Bool, true, false, List, [], ◌∷◌, None, map, refl, ap}
use Rattle.osal_line.specs.declared.line.Line.{Line}
use Rattle.osal_line.specs.Calls.{call_made}
use Rattle.osal_script.specs.Script.{Pending, Frames, in_body, line_call, put_in}
use Rattle.osal_script.specs.Handling.{HandlingState, lines_in, pending_in}
use Rattle.osal_script.specs.Walk.{first_of}
use Rattle.osal_script.specs.Cursor.{first_line, first_frame}

no_lines : (lines : List Line) → None ≡ first_of lines → lines ≡ []
no_lines [] none = refl
no_lines (line ∷ lines) none = absurd cc

none_left : (begun : Bool) → lines_in begun [] ++ [] ≡ []
none_left true = refl
none_left false = refl

-- where no handler has its turn, none is to come
pub no_handler : (handling : HandlingState) → None ≡ first_of handling.lines → (handling.lines ≡ [] → handling.waiting ≡ []) → pending_in handling ≡ []
no_handler handling none last =
    let lines = no_lines handling.lines none in
    ap (λ (left : List Line). lines_in handling.begun left ++ put_in handling.bodies handling.waiting) lines
    ∙ ap (λ (numbers : List ℕ). lines_in handling.begun [] ++ put_in handling.bodies numbers) (last lines)
    ∙ none_left handling.begun

-- the body's lines use the body's registers
pub body_frame : (lines : List Line) (frames : Frames) → first_frame (map in_body lines) frames ≡ frames.body
body_frame [] frames = refl
body_frame (line ∷ lines) frames = refl

-- the next line makes its call with the registers that it uses
pub call_with_frame : (pending : List Pending) (frames : Frames) → call_made (first_line pending) (first_frame pending frames) ≡ line_call pending frames
call_with_frame [] frames = refl
call_with_frame (next ∷ pending) frames = refl
