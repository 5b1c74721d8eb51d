use Rattle.fb_inspect.proofs.lemmas.Common.{◌≡◌, ◌++◌, drop, true, system_of, insides_begun}
use Rattle.fb_inspect.proofs.dump.head.put_insides_begun.Given as goal

abbrev pub invariant-loop-index : goal.invariant-loop-index
invariant-loop-index l =
    l.text.items ++ insides_begun true (system_of l.system) (drop l.index (system_of l.system).paths)
    ≡ l.initial.text.items ++ insides_begun true (system_of l.system) (system_of l.system).paths
