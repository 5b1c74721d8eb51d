use Rattle.fb_inspect.proofs.lemmas.Common.{◌++◌, ℕ, Bool, codes, decimal, sym, ap, ◌∙◌, line}
use Rattle.fb_wave.proofs.lemmas.Handing.{on_ok}
use Rattle.fb_inspect.specs.dump.Inner.{lost_change}
use Rattle.fb_inspect.proofs.dump.inner.put_lost.Goals as goal

pub returns : goal.returns
returns c =
    let old = c.args.text.now.items in
    on_ok c.put_line.result _ _ c.put_line.ensures
    (λ e.
    e
    ∙ ap (λ (k : ℕ). old ++ line (codes "1l" ++ decimal k)) c.from.ensures
    ∙ ap (λ (b : Bool). old ++ lost_change c.args.instance b) (sym c.if-not-is_lost.false))
