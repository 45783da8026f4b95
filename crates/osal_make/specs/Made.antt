-- The application that is made for a number of workers, as a value.
use Rattle.std.specs.Prelude.{◌+◌, ◌*◌, List, ◌∷◌, ℕ, map, codes}
use Rattle.osal_line.specs.declared.kind.BodyKind.TheVariants as kind
use Rattle.osal_script.specs.App.{ScriptBody, Application}
use Rattle.osal_make.specs.MakeText.{workers, worker_name}
use Rattle.osal_make.specs.Items.{main_items, worker_items}

-- the first body
abbrev pub main_body : ℕ → ScriptBody
main_body n = record { name = codes "main"; kind = kind.Task; items = main_items n }

-- the body of a worker, among so many
abbrev pub worker_body : ℕ → ℕ → ScriptBody
worker_body n k = record { name = worker_name k; kind = kind.Task; items = worker_items (n + 10 * k) k }

-- the first body and those of the workers
abbrev pub made_bodies : ℕ → List ScriptBody
made_bodies n = main_body n ∷ map (worker_body n) (workers n)

-- the application
abbrev pub made_app : ℕ → Application
made_app n = record { version = 1; bodies = made_bodies n }
