use Rattle.fb_lint.proofs.lemmas.Common.{◌++◌, Bool, ◌∙◌, ap, edges_are}
use Rattle.fb_lint.specs.Circles.{certain_edge, edge_if}
use Rattle.fb_lint.proofs.lemmas.WarningLists.{all_found, next_found}
use Rattle.fb_lint.proofs.circles.certain_edges.Goals as goal

pub loop-index-preserved : goal.loop-index-preserved
loop-index-preserved c =
    next_found (certain_edge c.args.transitions.now) c.args.transitions.now c.loop-index.index c.index-transitions-index.result (edges_are c.loop-index.edges.items) _ _ c.loop-index-test.true c.index-transitions-index.is
    (c.in_ok-push_edge.ensures ∙ ap (λ (b : Bool). edges_are c.loop-index.edges.items ++ edge_if b c.index-transitions-index.result) c.is_certain-applies.ensures)
    c.loop-index.invariant

pub returns : goal.returns
returns c = all_found (certain_edge c.args.transitions.now) c.args.transitions.now c.loop-index.index _ _ c.loop-index-test.false c.loop-index.invariant
