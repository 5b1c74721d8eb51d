use Rattle.fb_types.proofs.Common.{◌≡◌, ◌≤◌, length, take, vec_len, vec_capacity, AllZip}
use Rattle.fb_sim.proofs.lemmas.text.Cutting.{IsWhole}
use Rattle.fb_sim.proofs.rounds.join_texts.all_whole.Given as goal

abbrev pub invariant-loop-text : goal.invariant-loop-text
invariant-loop-text l = record {
  all : AllZip IsWhole (take l.text-index l.texts) l.rests.items;
  len : vec_len l.rests ≡ l.text-index;
  room : length l.texts ≤ vec_capacity l.rests;
}
