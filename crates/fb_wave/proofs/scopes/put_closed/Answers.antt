use Rattle.fb_wave.proofs.lemmas.Common.{ℕ, List, ◌-◌, ◌++◌, codes, ap, ◌∙◌, append_assoc, closed}
use Rattle.fb_wave.proofs.lemmas.Declaring.{closing}
use Rattle.fb_wave.proofs.scopes.put_closed.Goals as goal

pub loop-left-preserved : goal.loop-left-preserved
loop-left-preserved c =
    let text = c.loop-left.text.items in
    let k = c.loop-left.left in
    ap (λ (l : List ℕ). l ++ closed (k - 1)) c.in_ok-extend_from_slice.ensures.items
    ∙ append_assoc text (codes "$upscope $end\n") (closed (k - 1))
    ∙ ap (λ (l : List ℕ). text ++ l) (closing k c.loop-left-test.true)
    ∙ c.loop-left.invariant
