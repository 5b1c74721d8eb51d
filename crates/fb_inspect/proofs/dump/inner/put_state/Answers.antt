use Rattle.fb_inspect.proofs.lemmas.Common.{◌≡◌, ◌∷◌, [], ◌++◌, ℕ, List, codes, decimal, append_assoc, ap, ◌∙◌, line}
use Rattle.fb_wave.proofs.lemmas.Handing.{on_ok}
use Rattle.fb_inspect.specs.dump.Inner.{state_changed}
use Rattle.fb_inspect.proofs.dump.inner.put_state.Goals as goal

state_put : (o a s b f d e : List ℕ) → ((o ++ a) ++ s) ++ ((b ++ f ++ d) ++ e) ≡ o ++ ((a ++ s ++ b ++ (f ++ d)) ++ e)
state_put o a s b f d e = simp append_assoc

pub returns : goal.returns
returns c =
    let old = c.args.text.now.items in
    let state : List ℕ = c.args.state.now in
    let number : List ℕ = decimal c.from.result in
    on_ok c.put_line.result _ _ c.put_line.ensures
    (λ e.
    e
    ∙ ap (λ (t : List ℕ). t ++ line (codes " s" ++ number))
    (c.in_ok-extend_from_slice-2.ensures.items ∙ ap (λ (t : List ℕ). t ++ state) c.in_ok-extend_from_slice.ensures.items)
    ∙ state_put old (codes "s") state (codes " ") (codes "s") number (10 ∷ [])
    ∙ ap (λ (k : ℕ). old ++ state_changed k state) c.from.ensures)
