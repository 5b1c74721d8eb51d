use Rattle.fb_net.proofs.lemmas.Common.{List, ◌∙◌, ap, variable_names, Variable, values_of, begun_all}
use Rattle.fb_net.proofs.lemmas.opening.BlockOpened.{inputs_declared, of_declaration, opens}
use Rattle.fb_net.proofs.lemmas.blocks.Charts.{charts_grow, known_chart}
use Rattle.fb_net.proofs.opening.blocks.basic_of.Goals as goal

pub chart_at-requires-clause-declared : goal.chart_at-requires-clause-declared
chart_at-requires-clause-declared c = of_declaration c.args.system.now c.args.instance c.args.block.now c.facts.ensures.accepted c.requires.kind

pub chart_at-requires-clause-known : goal.chart_at-requires-clause-known
chart_at-requires-clause-known c = known_chart c.args.system.now c.args.charts.now c.args.index c.args.block.now c.requires.charts c.requires.index

pub open-requires-clause-declared : goal.open-requires-clause-declared
open-requires-clause-declared c = of_declaration c.args.system.now c.args.instance c.args.block.now c.facts.ensures.accepted c.requires.kind

pub set_inputs-requires-clause-declared : goal.set_inputs-requires-clause-declared
set_inputs-requires-clause-declared c = rw c.as_slice-inputs.ensures (inputs_declared c.args.block.now c.in_ok-state.state c.in_ok-state.ensures)

pub returns-clause-represents : goal.returns-clause-represents
returns-clause-represents c =
    opens c.args.system.now c.args.instance c.args.block.now c.in_ok-state.state c.set_inputs.new.frame c.as_slice.result.now c.facts.ensures.accepted c.requires.instance
    c.requires.kind c.in_ok-state.ensures (c.as_slice.ensures ∙ c.in_ok-values.ensures)
    (c.in_ok-set_inputs.ensures.values
    ∙ ap (λ (vs : List Variable). begun_all (variable_names vs) c.as_slice.result.now (values_of c.in_ok-state.state.frame)) c.as_slice-inputs.ensures)
    c.in_ok-set_inputs.ensures.declared

pub returns-clause-charts : goal.returns-clause-charts
returns-clause-charts c =
    charts_grow c.args.system.now c.args.charts.now c.chart_at.new.charts c.args.index c.args.block.now c.requires.charts c.requires.index
    c.in_ok-chart.ensures.charts
