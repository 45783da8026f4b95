use Rattle.std.proofs.Common.{◌≡◌, ℕ, List, [], ◌∷◌, Option, None, refl, ap, ◌∙◌}
use Rattle.osal_object.specs.Deadlines.{deadlines_in, least}
use Rattle.osal_machine.specs.Step.{MachineState}
use Rattle.osal_machine.proofs.Deadlines.{both, none_sooner, next_of_parts}
use Rattle.osal_machine.proofs.whole.Whole.next_deadline.Goals as goal

pub returns : goal.returns
returns c =
    let io_last = none_sooner c.next_deadline-io.result in
    let found : List (Option ℕ) = c.next_deadline-tasks.result ∷ c.next_deadline-queues.result ∷ c.next_deadline-count_sems.result ∷ c.next_deadline-bin_sems.result ∷ c.next_deadline-mutexes.result ∷ c.next_deadline-condvars.result ∷ None ∷ c.next_deadline-io.result ∷ None ∷ [] in
    next_of_parts c.args.self.now c.moment-now.result found _ (cc) c.moment-now.ensures
    (both (c.next_deadline-tasks.ensures ∙ ap (λ (s : MachineState). least (deadlines_in c.moment-now.result s.tasks.objects.waits.records)) c.self.view_is)
    (both (c.next_deadline-queues.ensures ∙ ap (λ (s : MachineState). least (deadlines_in c.moment-now.result s.queues.objects.waits.records)) c.self.view_is)
    (both (c.next_deadline-count_sems.ensures ∙ ap (λ (s : MachineState). least (deadlines_in c.moment-now.result s.count_sems.objects.waits.records)) c.self.view_is)
    (both (c.next_deadline-bin_sems.ensures ∙ ap (λ (s : MachineState). least (deadlines_in c.moment-now.result s.bin_sems.objects.waits.records)) c.self.view_is)
    (both (c.next_deadline-mutexes.ensures ∙ ap (λ (s : MachineState). least (deadlines_in c.moment-now.result s.mutexes.objects.waits.records)) c.self.view_is)
    (both (c.next_deadline-condvars.ensures ∙ ap (λ (s : MachineState). least (deadlines_in c.moment-now.result s.condvars.objects.waits.records)) c.self.view_is)
    (both refl
    (both (c.next_deadline-io.ensures ∙ ap (λ (s : MachineState). least (deadlines_in c.moment-now.result s.io.streams.waits.records)) c.self.view_is)
    (both refl tt)))))))))
