use Rattle.std.proofs.Common.{sym, ap, inl, inr}
use Rattle.fb_why.specs.Causes.{is_of_stimuli}
use Rattle.fb_why.proofs.cause.is_of_stimuli.Goals as goal

pub returns-in-BadStimulus : goal.returns-in-BadStimulus
returns-in-BadStimulus c =
    elim c.in-BadStimulus.is [
      | inl bad ↦ sym (ap is_of_stimuli bad)
      | inr over ↦ sym (ap is_of_stimuli over)
    ]
