use Rattle.fb_expect.proofs.lemmas.patterns.Marked.{covers, covers-all}
use Rattle.fb_expect.proofs.port_set.ports_of.Goals as goal

pub returns-then-has_windows : goal.returns-then-has_windows
returns-then-has_windows c = covers-all c.args.rule.now c.everything.result c.everything.ensures

pub returns : goal.returns
returns c =
    covers c.args.rule.now c.nothing.result c.with_pattern-marks.result c.with_optional-marks.result c.with_optional.result c.with_pattern-marks.ensures c.with_optional-marks.ensures c.with_optional.ensures
    (c.has_windows.ensures c.if-has_windows.false)
