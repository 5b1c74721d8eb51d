use Rattle.fb_draw.specs.Networks as spec
use Rattle.fb_text.proofs.lemmas.Adding.{list_added, next_added}
use Rattle.fb_draw.proofs.connection.put_edges.Goals as goal

pub loop-connection-preserved : goal.loop-connection-preserved
loop-connection-preserved c =
    next_added (spec.edge c.args.attributes.now) c.args.connections.now c.loop-connection.connection-index c.connection-item.result c.loop-connection.text.items _ _ c.loop-connection-test.true c.connection-item.is
    c.in_ok-put_edge.ensures c.loop-connection.invariant

pub returns : goal.returns
returns c = list_added (spec.edge c.args.attributes.now) c.args.connections.now c.loop-connection.connection-index _ _ c.loop-connection-test.false c.loop-connection.invariant
