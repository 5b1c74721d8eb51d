use Rattle.fb_window.specs.Frontiers.{AreLive}
use Rattle.fb_window.specs.Turning.{IsSame, MayTurn}
use Rattle.fb_window.proofs.lemmas.turns.TurnByTurn.{HasGone}
use Rattle.fb_window.proofs.turn_series.TurnSeries.take_turns.Given as goal

abbrev pub invariant-loop : goal.invariant-loop
invariant-loop l = record {
  gone : HasGone l.initial.self.core.now.system l.initial.self.core.now.steps l.initial.self.nexts.now.horizon l.initial.self.core.now l.self.core.now l.counter;
  live : AreLive l.self.core.now.resources.items;
  may : MayTurn l.self;
  same : IsSame l.initial.self l.self;
}
