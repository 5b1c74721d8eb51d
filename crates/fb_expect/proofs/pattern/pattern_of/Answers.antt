use Rattle.fb_expect.proofs.lemmas.Common.{◌≡◌, ◌∙◌, ap, ap₂, map, subst, Bor, IfOk, Option, Text, words_of, Pattern}
use Rattle.fb_expect.specs.Written.{pattern_in, pattern_of, upper}
use Rattle.fb_expect.proofs.pattern.pattern_of.Goals as goal

pub returns : goal.returns
unfolding pattern_of
returns c =
    let u = map upper c.args.text.now in
    let first : c.as_slice.result.now ≡ u = c.as_slice.ensures.value ∙ c.in_ok-text.ensures ∙ ap (map upper) c.as_bytes.ensures.value in
    let third : c.as_slice-3.result.now ≡ u = c.as_slice-3.ensures.value ∙ c.in_ok-text.ensures ∙ ap (map upper) c.as_bytes.ensures.value in
    let words : map (λ (w : Bor Text). w.now) c.as_slice-2.result.now ≡ words_of u =
    ap (map (λ (w : Bor Text). w.now)) c.as_slice-2.ensures.value ∙ c.in_ok-words.ensures ∙ ap words_of first
    in
    subst (λ (o : Option Pattern). IfOk c.pattern_in.result (λ p. p ≡ o)) (ap₂ pattern_in words third) c.pattern_in.ensures
