use Rattle.std.proofs.Common.{Bool, ◌++◌, ◌∙◌, ap, codes}
use Rattle.fb_coverage.specs.Reports as spec
use Rattle.fb_coverage.proofs.lemmas.Listed.{listed_next}
use Rattle.fb_coverage.proofs.block_report.put_states.Goals as goal

pub loop-index-preserved : goal.loop-index-preserved
loop-index-preserved c =
    let x = c.index-states-index.result in
    let old = c.loop-index.text.items in
    listed_next (spec.state_line c.args.flags.now) c.args.states.now c.loop-index.index x old c.put_unless.new.text.items _ c.loop-index-test.true c.index-states-index.is
    (c.in_ok-put_unless.ensures ∙ ap (λ (b : Bool). old ++ spec.line_unless b (codes "  state ") x.name (codes " was never entered\n")) c.is_set-is_covered.ensures) c.loop-index.invariant
