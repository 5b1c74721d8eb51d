-- Worked examples of inputs that are accepted (IEC 61499-1, 5 to 7; this project's profile).
use Rattle.fb_types.specs.Examples as example
use Rattle.fb_types.specs.Headline.{AreAccepted}

-- One resource and several, parameters, links, a data connection between resources, stimuli, and block types with charts.
pub record AcceptedExamples : Type 0 where
  pub cycle : AreAccepted example.cycle
  pub delay : AreAccepted example.delay
  pub held_copy : AreAccepted example.held_copy
  pub two_links : AreAccepted example.two_links
  pub stepper : AreAccepted example.stepper
  pub looper : AreAccepted example.looper
