use Rattle.fb_types.proofs.Common.{◌≡◌, ◌++◌, length, into_iter_items, into_iter_len}
use Rattle.fb_window.specs.Turning.{HasGiven, IsSame, MayTurn}
use Rattle.fb_window.proofs.turn_series.TurnSeries.give.Given as goal

abbrev pub invariant-loop-message : goal.invariant-loop-message
invariant-loop-message l = record {
  given : HasGiven l.initial.self l.yielded l.self;
  may : MayTurn l.self;
  same : IsSame l.initial.self l.self;
  rest : l.yielded ++ into_iter_items l.message-iterator ≡ l.fn.sent.items;
  len : into_iter_len l.message-iterator ≡ length (into_iter_items l.message-iterator);
}
