use Rattle.fb_expect.proofs.lemmas.Common.{◌≡◌, ℕ, ◌++◌, List, [], ◌∷◌, OnOk, codes, subst, ◌∙◌, joined}
use Rattle.fb_types.proofs.Common.{ap₂}
use Rattle.fb_expect.specs.Suites.{case_of}
use Rattle.fb_expect.proofs.junit.put_case.Goals as goal

pub returns : goal.returns
unfolding case_of
returns c =
    let a = c.args in
    subst (λ (z : List ℕ). OnOk c.put_all.result (c.put_all.new.text.items ≡ a.text.now.items ++ z))
    (ap₂ (λ (x y : List ℕ). joined (x ∷ y ∷ codes "</testcase>\n" ∷ [])) (c.as_slice.ensures.value ∙ c.in_ok-front.ensures) (c.as_slice-2.ensures.value ∙ c.in_ok-inside.ensures)) c.put_all.ensures
