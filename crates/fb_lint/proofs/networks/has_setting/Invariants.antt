use Rattle.fb_types.proofs.Common.{◌≡◌, drop, list_any}
use Rattle.fb_lint.specs.Networks.{is_setting}
use Rattle.fb_lint.proofs.networks.has_setting.Given as goal

abbrev pub invariant-loop-setting : goal.invariant-loop-setting
invariant-loop-setting l = list_any (is_setting l.input) l.settings ≡ list_any (is_setting l.input) (drop l.setting-index l.settings)
