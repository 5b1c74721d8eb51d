use Rattle.fb_types.proofs.Common.{◌≡◌, drop, among}
use Rattle.fb_lint.proofs.names.is_among.Given as goal

abbrev pub invariant-loop-listed : goal.invariant-loop-listed
invariant-loop-listed l = among l.names l.name ≡ among (drop l.listed-index l.names) l.name
