use Rattle.fb_types.proofs.Common.{◌≡◌, ◌++◌, drop, system_of}
use Rattle.fb_coverage.specs.Listed.{listed}
use Rattle.fb_coverage.specs.Reports.{instance_text}
use Rattle.fb_coverage.proofs.port_report.put_instances.Given as goal

-- with what the rest adds, all is there
abbrev pub invariant-loop-index : goal.invariant-loop-index
invariant-loop-index l =
    let sys = system_of l.system in
    let text = instance_text l.system.library sys l.marks in
    l.text.items ++ listed text l.index (drop l.index sys.paths) ≡ l.fn.text.items ++ listed text 0 sys.paths
