use Rattle.fb_inspect.proofs.lemmas.Common.{◌≡◌, ◌++◌, drop, true, system_of, resources_opened}
use Rattle.fb_inspect.proofs.dump.head.put_head.Given as goal

abbrev pub invariant-loop-resource : goal.invariant-loop-resource
invariant-loop-resource l =
    l.text.items ++ resources_opened true (system_of l.system) l.resource (drop l.resource (system_of l.system).resource_names)
    ≡ l.initial.text.items ++ resources_opened true (system_of l.system) 0 (system_of l.system).resource_names
