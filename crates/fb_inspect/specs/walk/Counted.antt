-- The steps that a resource has left, as the program keeps them (this project's own).
use Rattle.fb_inspect.specs.walk.Looks.{Left}
use Rattle.fb_inspect.specs.declared.walk.steps.TickSteps.{TickSteps}

-- what the program's count says
abbrev pub left_of : TickSteps → Left
left_of s = record { tick = s.tick; left = s.meter.left; least = s.least }
