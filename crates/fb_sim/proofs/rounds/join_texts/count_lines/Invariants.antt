use Rattle.fb_types.proofs.Common.{◌≡◌, ◌≤◌, ◌*◌, ◌^◌, take, sum_by}
use Rattle.fb_sim.proofs.rounds.join_texts.count_lines.Given as goal

abbrev pub invariant-loop-text : goal.invariant-loop-text
invariant-loop-text l = record {
  sum : l.count ≡ sum_by (λ t. t.lines) (take l.text-index l.texts);
  within : l.count ≤ l.text-index * 2 ^ 64;
}
