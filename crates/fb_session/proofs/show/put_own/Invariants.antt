use Rattle.std.proofs.Common.{◌≡◌, ◌++◌, drop}
use Rattle.fb_st.specs.Frames.{values_of}
use Rattle.fb_session.specs.Shown.{variables_text}
use Rattle.fb_session.proofs.show.put_own.Given as goal

-- with what the rest adds, all is there
abbrev pub invariant-loop-variable : goal.invariant-loop-variable
invariant-loop-variable l =
    l.text.items ++ variables_text (drop l.variable-index l.variables) (values_of l.state.frame) ≡ l.fn.text.items ++ variables_text l.variables (values_of l.state.frame)
