use Rattle.std.proofs.Common.{◌≡◌, true, false, Some, refl, sym, ap, ◌∙◌}
use Rattle.osal_volume.specs.declared.fault.Kind.TheVariants as kind
use Rattle.osal_volume.specs.Volume.{kind_of, content_at, is_directory}
use Rattle.osal_volume.proofs.Rooms.{directory_seen}
use Rattle.osal_volume.proofs.Copies.{file_source, faults_are}
use Rattle.osal_volume.proofs.volume.Volume.placing_fault.Goals as goal

pub returns-then-is_directory : goal.returns-then-is_directory
returns-then-is_directory c = λ there told.
    let source : Some (kind.File c.in-File.size) ≡ kind_of there = cc in
    let home : c.has_home.result ≡ true = cc in
    let found = file_source there c.in-File.size source in
    let seen = c.is_directory.ensures ∙ directory_seen c.self.inside.tree c.self.inside.blocks c.args.to.now ∙ ap (λ s. is_directory (content_at s c.args.to.now)) c.self.view_is in
    let stands : c.is_directory.result ≡ true = cc in
    sym (faults_are c.args.self.now c.args.to.now c.args.same there found.0 found.1.0 true true _ _ (sym c.has_home.ensures ∙ home) (sym seen ∙ stands) refl refl)

pub returns-then-is_overfull_with : goal.returns-then-is_overfull_with
returns-then-is_overfull_with c = λ there told.
    let source : Some (kind.File c.in-File.size) ≡ kind_of there = cc in
    let home : c.has_home.result ≡ true = cc in
    let found = file_source there c.in-File.size source in
    let seen = c.is_directory.ensures ∙ directory_seen c.self.inside.tree c.self.inside.blocks c.args.to.now ∙ ap (λ s. is_directory (content_at s c.args.to.now)) c.self.view_is in
    let wide : c.is_directory.result ≡ false = cc in
    let apart : c.args.same ≡ false = cc in
    let full : c.is_overfull_with.result ≡ true = cc in
    sym (faults_are c.args.self.now c.args.to.now c.args.same there found.0 found.1.0 true false false true (sym c.has_home.ensures ∙ home) (sym seen ∙ wide) apart (sym (c.is_overfull_with.ensures found.0 found.1.1 (sym seen ∙ wide)) ∙ full))

pub returns : goal.returns
returns c = λ there told.
    let source : Some (kind.File c.in-File.size) ≡ kind_of there = cc in
    let home : c.has_home.result ≡ true = cc in
    let found = file_source there c.in-File.size source in
    let seen = c.is_directory.ensures ∙ directory_seen c.self.inside.tree c.self.inside.blocks c.args.to.now ∙ ap (λ s. is_directory (content_at s c.args.to.now)) c.self.view_is in
    let wide : c.is_directory.result ≡ false = cc in
    let apart : c.args.same ≡ false = cc in
    let room : c.is_overfull_with.result ≡ false = cc in
    sym (faults_are c.args.self.now c.args.to.now c.args.same there found.0 found.1.0 true false false false (sym c.has_home.ensures ∙ home) (sym seen ∙ wide) apart (sym (c.is_overfull_with.ensures found.0 found.1.1 (sym seen ∙ wide)) ∙ room))
