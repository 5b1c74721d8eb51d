use Rattle.fb_wave.proofs.lemmas.Common.{◌≡◌, false, system_of, IsCopied}
use Rattle.fb_wave.proofs.copy.Progress.copy.Given as goal

abbrev pub invariant-loop-number : goal.invariant-loop-number
invariant-loop-number g l = record {
  copied : IsCopied (system_of l.table.system.now) l.form l.number l.self l.current.text.items (g.R.Read.remaining l.fn.input) (g.R.Read.remaining l.input) (g.W.Write.contents l.fn.out) (g.W.Write.contents l.out);
  formed : l.current.form ≡ l.form;
  inside : l.current.after_end ≡ false;
}
