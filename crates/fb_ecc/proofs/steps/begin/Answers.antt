use Rattle.std.proofs.Common.{ap, ◌∙◌}
use Rattle.fb_st.specs.Frames.{declared_in}
use Rattle.fb_ecc.proofs.lemmas.Links.{variables_here}
use Rattle.fb_ecc.specs.declared.shared.Shared.{Shared}
use Rattle.fb_ecc.proofs.steps.begin.Goals as goal

pub returns-clause-sampled : goal.returns-clause-sampled
returns-clause-sampled c =
    let are = variables_here c.args.block.now (declared_in c.args.state.now.frame) c.args.state.now.chart.chart c.as_slice-sampled.result.now c.args.event c.as_slice-slots.result.now c.index-sampled-event.result c.requires.block.declared c.requires.block.chart.chart
    (c.as_slice-sampled.ensures ∙ ap (λ (x : Shared). x.chart.sampled) c.parts.ensures) c.requires.event (c.as_slice-slots.ensures ∙ c.index-sampled-event.is) in
    c.sample.ensures.sampled _ are
