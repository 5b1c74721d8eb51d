use Rattle.std.proofs.Common.{◌∙◌, sym}
use Rattle.fb_st.proofs.running.is_true.Goals as goal

pub returns-in-Some : goal.returns-in-Some
returns-in-Some c = sym c.in-Some.ensures

pub returns-in_ok-truth-in-None : goal.returns-in_ok-truth-in-None
returns-in_ok-truth-in-None c = sym c.in_ok-truth-in-None.was ∙ c.truth-in-None.ensures
