use Rattle.std.proofs.Common.{ℕ, List, ◌++◌, codes, ap, ◌∙◌, append_assoc}
use Rattle.fb_wave.proofs.lemmas.Handing.{on_put}
use Rattle.fb_wave.proofs.dump.put_stop.Goals as goal

pub returns : goal.returns
returns c =
    let old = c.args.text.now.items in
    let resource = c.args.resource.now in
    on_put c.extend_from_slice-5.result _ _ _ _ c.extend_from_slice-5.ensures.items
    (λ e.
    e
    ∙ ap (λ (l : List ℕ). l ++ codes " $end\n")
    (c.in_ok-extend_from_slice-4.ensures.items
    ∙ ap (λ (l : List ℕ). l ++ c.reason_text.result.now)
    (c.in_ok-extend_from_slice-3.ensures.items
    ∙ ap (λ (l : List ℕ). l ++ codes " ")
    (c.in_ok-extend_from_slice-2.ensures.items ∙ ap (λ (l : List ℕ). l ++ resource) c.in_ok-extend_from_slice.ensures.items))
    ∙ ap (λ (r : List ℕ). (((old ++ codes "$comment stop ") ++ resource) ++ codes " ") ++ r) c.reason_text.ensures)
    ∙ simp append_assoc)
