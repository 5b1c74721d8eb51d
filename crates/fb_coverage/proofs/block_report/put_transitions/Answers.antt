use Rattle.std.proofs.Common.{Bool, ◌++◌, ◌∙◌, ap}
use Rattle.fb_coverage.specs.Reports as spec
use Rattle.fb_coverage.proofs.lemmas.Listed.{listed_next}
use Rattle.fb_coverage.proofs.block_report.put_transitions.Goals as goal

pub loop-index-preserved : goal.loop-index-preserved
loop-index-preserved c =
    let x = c.index-transitions-index.result in
    let old = c.loop-index.text.items in
    listed_next (spec.transition_line c.args.flags.now) c.args.transitions.now c.loop-index.index x old c.put_uncleared.new.text.items _ c.loop-index-test.true c.index-transitions-index.is
    (c.in_ok-put_uncleared.ensures ∙ ap (λ (b : Bool). old ++ spec.transition_unless b x) c.is_set.ensures) c.loop-index.invariant
