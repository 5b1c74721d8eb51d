use Rattle.fb_lint.proofs.lemmas.Common.{◌≡◌, drop, list_any, among, names_are}
use Rattle.fb_lint.proofs.uses.has_listed.Given as goal

abbrev pub invariant-loop-output : goal.invariant-loop-output
invariant-loop-output l = list_any (among (names_are l.names)) l.outputs ≡ list_any (among (names_are l.names)) (drop l.output-index l.outputs)
