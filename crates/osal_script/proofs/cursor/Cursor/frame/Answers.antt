use Rattle.std.proofs.Common.{◌++◌, ◌∙◌, List, map, sym, ap}
use Rattle.osal_script.specs.Script.{Pending, Frames, in_body}
use Rattle.osal_script.specs.Cursor.{first_frame}
use Rattle.osal_script.proofs.Frames.{no_handler, body_frame}
use Rattle.osal_script.proofs.cursor.Cursor.frame.Goals as goal

pub returns-in-None : goal.returns-in-None
returns-in-None c =
    let inside = c.self.inside in
    let lines = inside.walk in
    let none = no_handler inside.handling c.in-None.ensures.first c.in-None.ensures.last in
    let frames : Frames = record { body = inside.registers; handler = inside.handling.registers } in
    rw (← c.self.view_is)
    (sym (ap (λ (pending : List Pending). first_frame (pending ++ map in_body lines) frames) none ∙ body_frame lines frames))
