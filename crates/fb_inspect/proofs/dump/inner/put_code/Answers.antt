use Rattle.std.proofs.Common.{◌≡◌, ℕ, List, ◌++◌, codes, decimal, append_assoc, ap, ◌∙◌}
use Rattle.fb_wave.proofs.lemmas.Handing.{on_ok, on_put}
use Rattle.fb_inspect.proofs.lemmas.results.Joined.{both_put}
use Rattle.fb_inspect.proofs.dump.inner.put_code.Goals as goal

code_put : (o a i s k : List ℕ) → (((o ++ a) ++ i) ++ s) ++ k ≡ o ++ (a ++ i ++ s ++ k)
code_put o a i s k = simp append_assoc

pub returns : goal.returns
returns c =
    let old = c.args.text.now.items in
    let instance : List ℕ = decimal c.from.result in
    let index : List ℕ = decimal c.args.index in
    let first = on_put c.extend_from_slice.result _ _ _ _ c.extend_from_slice.ensures.items (λ e. e) in
    let second = on_put c.extend_from_slice-2.result _ _ _ _ c.extend_from_slice-2.ensures.items (λ e. e) in
    on_ok c.and-3.result _ _
    (both_put c.and-3.result c.and-2.result c.put_decimal-2.result _ _ _ index c.and-3.ensures
    (both_put c.and-2.result c.and.result c.extend_from_slice-2.result _ _ _ _ c.and-2.ensures
    (both_put c.and.result c.extend_from_slice.result c.put_decimal.result _ _ _ instance c.and.ensures first c.put_decimal.ensures) second) c.put_decimal-2.ensures)
    (λ e. e ∙ code_put old (codes "i") instance (codes "_") index ∙ ap (λ (n : ℕ). old ++ (codes "i" ++ decimal n ++ codes "_" ++ index)) c.from.ensures)
