use Rattle.fb_expect.proofs.lemmas.Common.{◌≡◌, ◌∙◌, ap, map, subst, Bor, IfOk, Option, Text, words_of}
use Rattle.fb_expect.specs.PatternFaults.{words_fault}
use Rattle.fb_expect.specs.Written.{upper}
use Rattle.fb_expect.specs.declared.pattern.PatternFault.{PatternFault}
use Rattle.fb_expect.proofs.lemmas.patterns.Faulty.{exact}
use Rattle.fb_expect.proofs.pattern.pattern_fault.Goals as goal

pub returns-clause-fault : goal.returns-clause-fault
returns-clause-fault c =
    let u = map upper c.args.text.now in
    let first : c.as_slice.result.now ≡ u = c.as_slice.ensures.value ∙ c.in_ok-text.ensures ∙ ap (map upper) c.as_bytes.ensures.value in
    let words : map (λ (w : Bor Text). w.now) c.as_slice-2.result.now ≡ words_of u =
    ap (map (λ (w : Bor Text). w.now)) c.as_slice-2.ensures.value ∙ c.in_ok-words.ensures ∙ ap words_of first
    in
    subst (λ (o : Option PatternFault). IfOk c.words_fault.result (λ p. p ≡ o)) (ap words_fault words) c.words_fault.ensures

pub returns-clause-exact : goal.returns-clause-exact
returns-clause-exact c =
    let u = map upper c.args.text.now in
    let first : c.as_slice.result.now ≡ u = c.as_slice.ensures.value ∙ c.in_ok-text.ensures ∙ ap (map upper) c.as_bytes.ensures.value in
    let words : map (λ (w : Bor Text). w.now) c.as_slice-2.result.now ≡ words_of u =
    ap (map (λ (w : Bor Text). w.now)) c.as_slice-2.ensures.value ∙ c.in_ok-words.ensures ∙ ap words_of first
    in
    exact c.words_fault.result c.args.text.now (subst (λ (o : Option PatternFault). IfOk c.words_fault.result (λ p. p ≡ o)) (ap words_fault words) c.words_fault.ensures)
