use Rattle.fb_types.specs.Headline.{system_of}
use Rattle.fb_inspect.proofs.lemmas.walk.Opened.{open_more}
use Rattle.fb_inspect.proofs.walk.blocks.opened_all.Goals as goal

pub loop-index-preserved : goal.loop-index-preserved
loop-index-preserved c = record {
  all = open_more (system_of c.args.system.now) c.loop-index.index _ _ _ c.loop-index.invariant.all c.in_ok-opened.ensures.opens c.in_ok-push.ensures.items;
  charts = c.in_ok-opened.ensures.charts;
}
