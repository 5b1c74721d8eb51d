use Rattle.fb_inspect.proofs.lemmas.Common.{◌≡◌, ◌++◌, drop, true, system_of, instances_opened}
use Rattle.fb_wave.specs.Signals.{first_signal}
use Rattle.fb_inspect.proofs.dump.head.put_instances.Given as goal

abbrev pub invariant-loop-index : goal.invariant-loop-index
invariant-loop-index l =
    l.text.items ++ instances_opened true (system_of l.system) l.resource l.depth (first_signal (system_of l.system) l.index) (drop l.index (system_of l.system).paths)
    ≡ l.initial.text.items ++ instances_opened true (system_of l.system) l.resource 0 0 (system_of l.system).paths
