use Rattle.std.proofs.Common.{◌≡◌, ◌++◌, drop}
use Rattle.fb_session.specs.Shown.{listed_text}
use Rattle.fb_session.proofs.show.put_values.Given as goal

-- with what the rest adds, all is there
abbrev pub invariant-loop-index : goal.invariant-loop-index
invariant-loop-index l =
    l.text.items ++ listed_text (drop l.index l.variables) (drop l.index l.values) ≡ l.fn.text.items ++ listed_text l.variables l.values
