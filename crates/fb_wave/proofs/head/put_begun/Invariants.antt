use Rattle.fb_wave.proofs.lemmas.Common.{◌≡◌, ◌++◌, drop, system_of, first_signal}
use Rattle.fb_wave.specs.Scopes.{instances_begun}
use Rattle.fb_wave.proofs.head.put_begun.Given as goal

abbrev pub invariant-loop-index : goal.invariant-loop-index
invariant-loop-index l =
    l.text.items ++ instances_begun (system_of l.system) (first_signal (system_of l.system) l.index) (drop l.index (system_of l.system).paths)
    ≡ l.initial.text.items ++ instances_begun (system_of l.system) 0 (system_of l.system).paths
