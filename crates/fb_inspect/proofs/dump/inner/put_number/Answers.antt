use Rattle.std.proofs.Common.{◌≡◌, ◌∷◌, [], ◌++◌, ℕ, List, codes, append_assoc, ap, ◌∙◌, to_z-of_z}
use Rattle.fb_types.specs.declared.value.Value.TheVariants as value
use Rattle.fb_wave.specs.Changes.{binary, in_bits, number_changed}
use Rattle.fb_wave.proofs.lemmas.Handing.{on_put}
use Rattle.fb_inspect.specs.dump.Inner.{hidden_code}
use Rattle.fb_inspect.proofs.dump.inner.put_number.Goals as goal

number_put : (o a n b k e : List ℕ) → ((((o ++ a) ++ n) ++ b) ++ k) ++ e ≡ o ++ ((a ++ n ++ b ++ k) ++ e)
number_put o a n b k e = simp append_assoc

pub returns : goal.returns
returns c =
    let old = c.args.text.now.items in
    let code : List ℕ = hidden_code c.args.instance c.args.index in
    let bits : List ℕ = binary c.in_bits.result in
    let is : c.in_bits.result ≡ in_bits (value.Whole c.args.number) = rw (to_z-of_z c.ranges.number) at c.in_bits.ensures in
    on_put c.extend_from_slice-3.result _ _ _ _ c.extend_from_slice-3.ensures.items
    (λ e.
    e
    ∙ ap (λ (t : List ℕ). t ++ 10 ∷ [])
    (c.in_ok-put_code.ensures
    ∙ ap (λ (t : List ℕ). t ++ code)
    (c.in_ok-extend_from_slice-2.ensures.items
    ∙ ap (λ (t : List ℕ). t ++ codes " ") (c.in_ok-put_binary.ensures ∙ ap (λ (t : List ℕ). t ++ bits) c.in_ok-extend_from_slice.ensures.items)))
    ∙ number_put old (codes "b") bits (codes " ") code (10 ∷ [])
    ∙ ap (λ (n : ℕ). old ++ number_changed n code) is)
