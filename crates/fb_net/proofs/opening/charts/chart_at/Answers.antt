use Rattle.std.proofs.Common.{sym, subst}
use Rattle.fb_ecc.specs.Programs.{IsSharedOf}
use Rattle.fb_net.proofs.lemmas.blocks.Charts.{chart_more}
use Rattle.fb_net.proofs.opening.charts.chart_at.Goals as goal

pub returns-clause-charts : goal.returns-clause-charts
returns-clause-charts c =
    chart_more c.args.charts.now c.insert.new.self c.args.index c.args.block.now c.in_ok-kept.kept
    (subst (IsSharedOf c.args.block.now) (sym c.in_ok-kept.ensures) c.in_ok-chart.ensures) c.in_ok-insert.ensures.updates.0
