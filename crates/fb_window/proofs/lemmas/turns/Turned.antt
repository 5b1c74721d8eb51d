-- A series of turns goes on after a step of it, of the same system.
use Rattle.std.proofs.Common.{◌≡◌, ◌∙◌}
use Rattle.fb_window.specs.Turning.{IsSame}
use Rattle.fb_window.specs.declared.turn_series.TurnSeries.{TurnSeries}

pub same_then : (a b c : TurnSeries) → IsSame a b → IsSame b c → IsSame a c
same_then a b c first next = record {
  system = next.system ∙ first.system;
  core = next.core ∙ first.core;
  nexts = next.nexts ∙ first.nexts;
  horizon = next.horizon ∙ first.horizon;
  inputs = next.inputs ∙ first.inputs;
  steps = next.steps ∙ first.steps;
}

-- The same, where the series of turns in between is read, so that its fact of the system is known anew.
pub same_after : (a b m c : TurnSeries) → IsSame m c → IsSame a b → m.system.now ≡ b.system.now → m.core.ghost_name ≡ b.core.ghost_name → m.nexts.ghost_name ≡ b.nexts.ghost_name
    → m.nexts.now.horizon ≡ b.nexts.now.horizon → m.core.now.system ≡ b.core.now.system → m.core.now.steps ≡ b.core.now.steps → IsSame a c
same_after a b m c next first system core nexts horizon inputs steps =
    same_then a m c
    (record {
      system = system ∙ first.system;
      core = core ∙ first.core;
      nexts = nexts ∙ first.nexts;
      horizon = horizon ∙ first.horizon;
      inputs = inputs ∙ first.inputs;
      steps = steps ∙ first.steps;
    })
    next
