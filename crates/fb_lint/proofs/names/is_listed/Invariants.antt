use Rattle.fb_lint.proofs.lemmas.Common.{◌≡◌, drop, among, names_are}
use Rattle.fb_lint.proofs.names.is_listed.Given as goal

abbrev pub invariant-loop-listed : goal.invariant-loop-listed
invariant-loop-listed l = among (names_are l.names) l.name ≡ among (names_are (drop l.listed-index l.names)) l.name
