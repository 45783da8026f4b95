use Rattle.std.proofs.Common.{Some, length, sym, ap, option_map, ◌∙◌}
use Rattle.osal_volume.specs.declared.fault.Kind.TheVariants as kind
use Rattle.osal_blocks.specs.Blocks.{bytes_of}
use Rattle.osal_volume.specs.Volume.{kind_of, content_at}
use Rattle.osal_volume.specs.Whole.{content_of}
use Rattle.osal_volume.proofs.Held.{content_seen}
use Rattle.osal_volume.proofs.volume.Volume.kind.Goals as goal

pub returns-in-None : goal.returns-in-None
returns-in-None c =
    ap (λ o. kind_of (option_map (content_of c.self.inside.blocks) o)) c.in-None.ensures.value
    ∙ sym (ap kind_of (content_seen c.self.inside.tree c.self.inside.blocks c.args.at.now)) ∙ ap (λ s. kind_of (content_at s c.args.at.now)) c.self.view_is

pub returns-in-Some-Directory : goal.returns-in-Some-Directory
returns-in-Some-Directory c =
    ap (λ k. kind_of (Some (content_of c.self.inside.blocks k))) (sym c.in-Some-Directory.field-0-is)
    ∙ ap (λ o. kind_of (option_map (content_of c.self.inside.blocks) o)) c.in-Some-Directory.ensures.value
    ∙ sym (ap kind_of (content_seen c.self.inside.tree c.self.inside.blocks c.args.at.now)) ∙ ap (λ s. kind_of (content_at s c.args.at.now)) c.self.view_is

pub returns-in-Some-File : goal.returns-in-Some-File
returns-in-Some-File c =
    ap (λ n. Some (kind.File n)) (c.length.ensures ∙ ap (λ n. length (bytes_of c.self.inside.blocks n)) c.from.ensures)
    ∙ ap (λ k. kind_of (Some (content_of c.self.inside.blocks k))) (sym c.in-Some-File.field-0-is)
    ∙ ap (λ o. kind_of (option_map (content_of c.self.inside.blocks) o)) c.in-Some-File.ensures.value
    ∙ sym (ap kind_of (content_seen c.self.inside.tree c.self.inside.blocks c.args.at.now)) ∙ ap (λ s. kind_of (content_at s c.args.at.now)) c.self.view_is
