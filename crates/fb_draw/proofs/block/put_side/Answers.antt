use Rattle.std.proofs.Common.{codes}
use Rattle.fb_draw.specs.Networks as spec
use Rattle.fb_text.proofs.lemmas.Adding.{put_five}
use Rattle.fb_draw.proofs.block.put_side.Goals as goal

pub returns : goal.returns
returns c =
    put_five c.extend_from_slice-2.result c.args.text.now.items (spec.side_head c.args.side.now) (spec.event_fields c.args.events.now) (codes "}}|{{ ")
    (spec.variable_fields c.args.variables.now) (codes "}}\"];\n") _ _ _ _ _
    c.in_ok-put_side_head.ensures c.in_ok-put_events.ensures c.in_ok-extend_from_slice.ensures.items c.in_ok-put_variables.ensures c.extend_from_slice-2.ensures.items
