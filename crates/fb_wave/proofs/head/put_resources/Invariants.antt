use Rattle.fb_types.proofs.Common.{◌≡◌, ◌++◌, drop, system_of}
use Rattle.fb_wave.specs.Scopes.{resources_declared}
use Rattle.fb_wave.proofs.head.put_resources.Given as goal

abbrev pub invariant-loop-resource : goal.invariant-loop-resource
invariant-loop-resource l =
    l.text.items ++ resources_declared (system_of l.system) l.resource (drop l.resource (system_of l.system).resource_names)
    ≡ l.initial.text.items ++ resources_declared (system_of l.system) 0 (system_of l.system).resource_names
