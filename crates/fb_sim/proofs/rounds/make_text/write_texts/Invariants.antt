use Rattle.fb_sim.proofs.lemmas.Common.{◌≡◌, length, take, Appends, bounded, all_bytes}
use Rattle.fb_sim.proofs.rounds.make_text.write_texts.Given as goal

abbrev pub invariant-loop-text : goal.invariant-loop-text
invariant-loop-text g l = record {
  got : Appends (g.W.Write.contents l.initial.out) (g.W.Write.contents l.out) (all_bytes (take l.text-index l.texts));
  counted : l.written ≡ bounded (length (all_bytes (take l.text-index l.texts)));
}
