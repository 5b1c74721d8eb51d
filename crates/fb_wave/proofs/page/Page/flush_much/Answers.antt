use Rattle.std.proofs.Common.{ℕ, List, ◌++◌, sym, ap, ◌∙◌, append-nil, arith}
use Rattle.fb_wave.proofs.lemmas.Handing.{on_three}
use Rattle.fb_wave.proofs.page.Page.flush_much.Goals as goal

pub returns-clause-whole : goal.returns-clause-whole
returns-clause-whole g c =
    let text = c.args.self.now.text.items in
    on_three c.flush.result _ _ _ _ c.flush.ensures.whole c.flush.ensures.empty c.flush.ensures.counted
    (λ got empty counted.
    record { sent = text; got = got; parts = sym (ap (λ (t : List ℕ). text ++ t) empty ∙ append-nil text); counted = omega (arith, counted) })
