use Rattle.fb_types.proofs.Common.{◌≡◌, ◌≤◌, length, vec_capacity, into_iter_items, into_iter_len}
use Rattle.fb_sim.proofs.lemmas.text.TextsAre.{AreMade}
use Rattle.fb_sim.proofs.rounds.job_texts.texts_for.Given as goal

abbrev pub invariant-loop-text : goal.invariant-loop-text
invariant-loop-text l = record {
  made : AreMade l.system l.form l.finals l.all.items (into_iter_items l.text-iterator);
  len : into_iter_len l.text-iterator ≡ length (into_iter_items l.text-iterator);
  room : length l.finals ≤ vec_capacity l.all;
}
