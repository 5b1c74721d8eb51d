use Rattle.std.proofs.Common.{◌∙◌, ap, sym}
use Rattle.fb_sim.specs.Rounds.{outcome_at}
use Rattle.fb_sim.proofs.rounds.all_rounds.outcome_of.Goals as goal
use Rattle.fb_sim.proofs.rounds.all_rounds.outcome_of.Goals.{in-AtEnd, in-AtMark}

pub returns : goal.returns
returns c = elim c.match-finish.branch [
  | in-AtEnd w ↦ w.result-is ∙ sym (ap (outcome_at c.args.horizon) w.in-AtEnd.is)
  | in-AtMark w ↦ w.result-is ∙ sym (ap (outcome_at c.args.horizon) w.in-AtMark.is)
]
