use Rattle.fb_types.proofs.Common.{◌≡◌, ◌+◌, ◌≤◌, ◌++◌, length, vec_len, vec_capacity, into_iter_items, into_iter_len}
use Rattle.fb_sim.proofs.lemmas.text.TextsAre.{dones_of, texts_of}
use Rattle.fb_sim.proofs.rounds.workers.apart.Given as goal

abbrev pub invariant-loop-one : goal.invariant-loop-one
invariant-loop-one l = record {
  dones : l.dones.items ≡ dones_of l.yielded;
  texts : l.texts.items ≡ texts_of l.yielded;
  rest : l.yielded ++ into_iter_items l.one-iterator ≡ l.fn.all.items;
  len : into_iter_len l.one-iterator ≡ length (into_iter_items l.one-iterator);
  dones_room : vec_len l.dones + into_iter_len l.one-iterator ≤ vec_capacity l.dones;
  texts_room : vec_len l.texts + into_iter_len l.one-iterator ≤ vec_capacity l.texts;
}
