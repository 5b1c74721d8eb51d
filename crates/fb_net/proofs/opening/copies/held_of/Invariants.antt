use Rattle.fb_net.proofs.lemmas.Common.{◌≡◌, ◌<◌, system_of, path_at, InstanceVariable, IsVariable, Covers}
use Rattle.fb_net.proofs.opening.copies.held_of.Given as goal

abbrev pub invariant-loop-instance : goal.invariant-loop-instance
invariant-loop-instance l =
    (to : InstanceVariable) → to.instance < l.instance → IsVariable (system_of l.system) to → (system_of l.system).resource (path_at (system_of l.system) to.instance) ≡ l.resource
    → Covers l.system l.resource l.held to
