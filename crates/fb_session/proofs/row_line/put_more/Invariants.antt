use Rattle.std.proofs.Common.{◌≡◌, ◌++◌, drop}
use Rattle.fb_session.specs.Giving as spec
use Rattle.fb_session.proofs.row_line.put_more.Given as goal

-- with what the rest adds, all is there
abbrev pub invariant-loop-setting : goal.invariant-loop-setting
invariant-loop-setting l =
    l.text.items ++ spec.more_text (drop l.setting-index l.settings) ≡ l.fn.text.items ++ spec.more_text l.settings
