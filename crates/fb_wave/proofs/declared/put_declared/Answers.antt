use Rattle.std.proofs.Common.{◌≡◌, ℕ, List, [], ◌∷◌, ◌++◌, decimal, codes, ap, ◌∙◌, append_assoc}
use Rattle.fb_wave.proofs.lemmas.Handing.{on_put}
use Rattle.fb_wave.proofs.declared.put_declared.Goals as goal

regroup : (o f s b n m e l : List ℕ) → (((((o ++ f) ++ s) ++ b) ++ n) ++ m) ++ (e ++ l) ≡ o ++ (((((f ++ s) ++ b) ++ (n ++ m)) ++ e) ++ l)
regroup o f s b n m e l = simp append_assoc

pub returns : goal.returns
returns c =
    let signal = decimal c.args.signal in
    let name = c.args.name.now in
    let mark = c.args.mark.now in
    on_put c.extend_from_slice-5.result _ _ _ _ c.extend_from_slice-5.ensures.items
    (λ e.
    e
    ∙ ap (λ (l : List ℕ). l ++ codes " $end\n")
    (c.in_ok-extend_from_slice-4.ensures.items
    ∙ ap (λ (l : List ℕ). l ++ mark)
    (c.in_ok-extend_from_slice-3.ensures.items
    ∙ ap (λ (l : List ℕ). l ++ name)
    (c.in_ok-extend_from_slice-2.ensures.items
    ∙ ap (λ (l : List ℕ). l ++ codes " ")
    (c.in_ok-put_decimal.ensures ∙ ap (λ (l : List ℕ). l ++ signal) c.in_ok-extend_from_slice.ensures.items))))
    ∙ regroup c.args.text.now.items c.args.front.now signal (codes " ") name mark (codes " $end") (10 ∷ []))
