use Rattle.std.proofs.Common.{◌≡◌, ◌≤◌, ◌<◌, List, Ok, length, sym, ap, subst, ◌∙◌, arith}
use Rattle.osal_script.specs.App.{ScriptBody, Application}
use Rattle.osal_script.specs.Cost.{cost_of}
use Rattle.osal_reading.specs.Outcome.{IsSound}
use Rattle.osal_make.specs.Made.{made_app}
use Rattle.osal_make.proofs.Whole.{text_read, made_sound}
use Rattle.osal_make.proofs.Cheap.{made_cheap}
use Rattle.osal_make.proofs.make.make_app.Goals as goal

pub new-requires : goal.new-requires
new-requires c =
    let n = c.args.workers in
    let made = made_sound n c.requires.some c.requires.few in
    let sound : IsSound (record { version = 1; bodies = c.in_ok-bodies.bodies.items }) =
    subst (λ (v : List ScriptBody). IsSound (record { version = 1; bodies = v })) (sym c.in_ok-bodies.ensures) made in
    record {
      some = subst (λ (v : List ScriptBody). 0 < length v) (sym c.in_ok-bodies.ensures) (omega arith);
      few = sound.0;
      later = sound.1;
      handlers = sound.2;
    }

pub returns : goal.returns
returns c =
    let n = c.args.workers in
    let app-is : c.new.result ≡ made_app n =
    c.new.ensures ∙ ap (λ (v : List ScriptBody). record { version = 1; bodies = v }) c.in_ok-bodies.ensures in
    record {
      reads = text_read n c.requires.some c.requires.few ∙ ap Ok (sym app-is);
      cost = subst (λ (app : Application). cost_of app ≤ 300000) (sym app-is) (made_cheap n c.requires.few);
    }
