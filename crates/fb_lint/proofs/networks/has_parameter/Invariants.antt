use Rattle.fb_types.proofs.Common.{◌≡◌, drop, list_any}
use Rattle.fb_lint.specs.Networks.{is_parameter}
use Rattle.fb_lint.proofs.networks.has_parameter.Given as goal

abbrev pub invariant-loop-parameter : goal.invariant-loop-parameter
invariant-loop-parameter l = list_any (is_parameter l.input) l.parameters ≡ list_any (is_parameter l.input) (drop l.parameter-index l.parameters)
