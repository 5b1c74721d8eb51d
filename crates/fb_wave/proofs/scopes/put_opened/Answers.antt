use Rattle.std.proofs.Common.{ℕ, List, ◌++◌, codes, ap, ◌∙◌, append_assoc}
use Rattle.fb_wave.proofs.lemmas.Handing.{on_put}
use Rattle.fb_wave.proofs.scopes.put_opened.Goals as goal

pub returns : goal.returns
returns c =
    let name = c.args.name.now in
    on_put c.extend_from_slice-3.result _ _ _ _ c.extend_from_slice-3.ensures.items
    (λ e.
    e
    ∙ ap (λ (l : List ℕ). l ++ codes " $end\n")
    (c.in_ok-extend_from_slice-2.ensures.items ∙ ap (λ (l : List ℕ). l ++ name) c.in_ok-extend_from_slice.ensures.items)
    ∙ simp append_assoc)
