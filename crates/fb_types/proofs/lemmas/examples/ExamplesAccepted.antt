-- Worked examples are accepted.
use Rattle.fb_types.proofs.Common.{refl, Inputs}
use Rattle.fb_types.specs.Examples.{cycle, delay, held_copy, looper, stepper, two_links}
use Rattle.fb_types.specs.ExampleInputs.{AcceptedExamples}
use Rattle.fb_types.proofs.lemmas.examples.AcceptanceTests.{Passes, accepted}

abbrev IsPassed : Inputs → Type 0
IsPassed i = Passes i.library i.plan i.stimuli

cycle-passes : IsPassed cycle
cycle-passes = record {
  once = record { spaces = refl; events = refl; links = refl };
  known = record { names = refl; mentions = refl; ends = refl };
  right = record { guards = refl; bodies = refl; declared = refl; parameters = refl };
  ranges = refl;
  sources = refl;
  height = refl;
  placed = record { each = refl; once = refl };
  linked = refl;
  served = refl;
  fit = refl;
  instances = refl;
  rows = refl;
}

delay-passes : IsPassed delay
delay-passes = record {
  once = record { spaces = refl; events = refl; links = refl };
  known = record { names = refl; mentions = refl; ends = refl };
  right = record { guards = refl; bodies = refl; declared = refl; parameters = refl };
  ranges = refl;
  sources = refl;
  height = refl;
  placed = record { each = refl; once = refl };
  linked = refl;
  served = refl;
  fit = refl;
  instances = refl;
  rows = refl;
}

held_copy-passes : IsPassed held_copy
held_copy-passes = record {
  once = record { spaces = refl; events = refl; links = refl };
  known = record { names = refl; mentions = refl; ends = refl };
  right = record { guards = refl; bodies = refl; declared = refl; parameters = refl };
  ranges = refl;
  sources = refl;
  height = refl;
  placed = record { each = refl; once = refl };
  linked = refl;
  served = refl;
  fit = refl;
  instances = refl;
  rows = refl;
}

two_links-passes : IsPassed two_links
two_links-passes = record {
  once = record { spaces = refl; events = refl; links = refl };
  known = record { names = refl; mentions = refl; ends = refl };
  right = record { guards = refl; bodies = refl; declared = refl; parameters = refl };
  ranges = refl;
  sources = refl;
  height = refl;
  placed = record { each = refl; once = refl };
  linked = refl;
  served = refl;
  fit = refl;
  instances = refl;
  rows = refl;
}

stepper-passes : IsPassed stepper
stepper-passes = record {
  once = record { spaces = refl; events = refl; links = refl };
  known = record { names = refl; mentions = refl; ends = refl };
  right = record { guards = refl; bodies = refl; declared = refl; parameters = refl };
  ranges = refl;
  sources = refl;
  height = refl;
  placed = record { each = refl; once = refl };
  linked = refl;
  served = refl;
  fit = refl;
  instances = refl;
  rows = refl;
}

looper-passes : IsPassed looper
looper-passes = record {
  once = record { spaces = refl; events = refl; links = refl };
  known = record { names = refl; mentions = refl; ends = refl };
  right = record { guards = refl; bodies = refl; declared = refl; parameters = refl };
  ranges = refl;
  sources = refl;
  height = refl;
  placed = record { each = refl; once = refl };
  linked = refl;
  served = refl;
  fit = refl;
  instances = refl;
  rows = refl;
}

pub accepted-examples : AcceptedExamples
accepted-examples = record {
  cycle = accepted cycle.library cycle.plan cycle.stimuli cycle-passes;
  delay = accepted delay.library delay.plan delay.stimuli delay-passes;
  held_copy = accepted held_copy.library held_copy.plan held_copy.stimuli held_copy-passes;
  two_links = accepted two_links.library two_links.plan two_links.stimuli two_links-passes;
  stepper = accepted stepper.library stepper.plan stepper.stimuli stepper-passes;
  looper = accepted looper.library looper.plan looper.stimuli looper-passes;
}
