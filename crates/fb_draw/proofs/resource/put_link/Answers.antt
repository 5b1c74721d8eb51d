use Rattle.fb_types.proofs.Common.{◌∙◌, ◌++◌, List, ap, codes}
use Rattle.fb_types.specs.declared.latency.Entry.{Entry}
use Rattle.std.specs.List.{flat_map}
use Rattle.fb_draw.specs.Resources as spec
use Rattle.fb_text.proofs.lemmas.Adding.{put_three}
use Rattle.fb_draw.proofs.resource.put_link.Goals as goal

pub returns : goal.returns
returns c =
    put_three c.extend_from_slice.result c.args.text.now.items (spec.link_head c.args.link.now.from c.args.link.now.to) (flat_map spec.entry_text c.args.link.now.latency) (codes "\"];\n") _ _ _
    c.in_ok-put_link_head.ensures
    (c.in_ok-put_entries.ensures ∙ ap (λ (es : List Entry). c.put_link_head.new.text.items ++ flat_map spec.entry_text es) c.entries.ensures.value)
    c.extend_from_slice.ensures.items
