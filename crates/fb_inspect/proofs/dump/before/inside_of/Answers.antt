use Rattle.fb_types.proofs.Common.{system_of, path_at}
use Rattle.fb_inspect.specs.declared.walk.blocks.Remembered.TheVariants as kept
use Rattle.fb_inspect.proofs.lemmas.walk.Walked.{chart_kept_at}
use Rattle.fb_inspect.proofs.lemmas.dump.Changing.{no_chart, none_any}
use Rattle.fb_inspect.proofs.dump.before.inside_of.Goals as goal

pub returns-in_err-chart-clause-none : goal.returns-in_err-chart-clause-none
returns-in_err-chart-clause-none c = λ look are.
    none_any c.from_residual-in_err-chart.result _
    (λ t is. no_chart (system_of c.args.system.now) c.args.blocks.now look c.args.instance c.in_ok-block.block.now are c.requires c.in_ok-block.ensures.basic c.in_err-chart.ensures.none)

pub returns-clause-some : goal.returns-clause-some
returns-clause-some c = λ look are.
    let sys = system_of c.args.system.now in
    let p = path_at sys c.args.instance in (
      c.in_ok-block.ensures.basic,
      chart_kept_at (sys.kind p) c.in_ok-block.block.now c.in_ok-chart.chart.now (look.blocks p) c.in_ok-block.ensures.basic
          (are.each c.args.instance (kept.Basic c.in_ok-chart.chart.now) c.in_ok-chart.ensures.some),
    )
