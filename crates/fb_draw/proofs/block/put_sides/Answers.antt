use Rattle.std.proofs.Common.{◌∙◌, ◌++◌, codes}
use Rattle.fb_draw.specs.Networks as spec
use Rattle.fb_text.proofs.lemmas.Adding.{put_as, put_two}
use Rattle.fb_draw.proofs.block.put_sides.Goals as goal

pub returns : goal.returns
returns c =
    let its = c.args.ports.now in
    let old = c.args.text.now.items in
    put_two c.put_side-2.result old (spec.side_node (codes "in") its.event_inputs its.inputs) (spec.side_node (codes "out") its.event_outputs its.outputs) c.put_side.new.text.items _
    (c.in_ok-put_side.ensures ∙ (λ i. old ++ spec.side_node (codes "in") (c.as_slice-events.ensures i) (c.as_slice.ensures i)))
    (put_as c.put_side-2.result _ _ _ _ (λ i. spec.side_node (codes "out") (c.as_slice-events-2.ensures i) (c.as_slice-2.ensures i)) c.put_side-2.ensures)
