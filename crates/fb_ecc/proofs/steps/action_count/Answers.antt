use Rattle.std.proofs.Common.{◌∙◌, ap}
use Rattle.fb_types.specs.Charts.{actions_of}
use Rattle.fb_ecc.specs.Indexes.{state_at}
use Rattle.fb_ecc.proofs.lemmas.Stepwise.{acts_read, count_of_acts}
use Rattle.fb_ecc.specs.declared.shared.Shared.{Shared}
use Rattle.fb_ecc.proofs.steps.action_count.Goals as goal

pub returns : goal.returns
returns c = λ t sound is.
    let are = acts_read t c.args.state.now.chart.chart c.as_slice.result.now c.args.state.now.state c.acts_of.result.now sound is.chart.chart is.state (c.as_slice.ensures ∙ ap (λ (x : Shared). x.chart.rows) c.parts.ensures) c.acts_of.ensures in
    count_of_acts t c.acts_of.result.now (actions_of t (state_at t c.args.state.now.state)) are
