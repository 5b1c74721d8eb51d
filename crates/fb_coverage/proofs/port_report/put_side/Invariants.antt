use Rattle.std.proofs.Common.{◌≡◌, ◌++◌, drop}
use Rattle.fb_types.specs.OfSystem.{path_at}
use Rattle.fb_coverage.specs.Listed.{listed}
use Rattle.fb_coverage.specs.OfSystem.{is_in}
use Rattle.fb_coverage.specs.Reports as spec
use Rattle.fb_coverage.proofs.port_report.put_side.Given as goal

-- with what the rest adds, all is there
abbrev pub invariant-loop-index : goal.invariant-loop-index
invariant-loop-index l =
    let line = spec.port_line (is_in l.of.group l.of.system.now (path_at l.of.system.now l.of.instance)) l.word l.flags l.words in
    l.text.items ++ listed line l.index (drop l.index l.events) ≡ l.fn.text.items ++ listed line 0 l.events
