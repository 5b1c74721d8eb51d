use Rattle.fb_inspect.proofs.lemmas.Common.{◌≡◌, ◌++◌, List, ℕ, codes, append_assoc, ap, ◌∙◌, hidden_code}
use Rattle.fb_wave.specs.Scopes.{variable_kind}
use Rattle.fb_wave.proofs.lemmas.Handing.{on_put}
use Rattle.fb_inspect.proofs.dump.inner.put_hidden.Goals as goal

declared : (o v k b i n e f : List ℕ) → ((((o ++ (v ++ k ++ b)) ++ i) ++ b) ++ n) ++ (e ++ f) ≡ o ++ ((v ++ k ++ b ++ i ++ b ++ n ++ e) ++ f)
declared o v k b i n e f = simp append_assoc

pub returns : goal.returns
returns c =
    let old = c.args.text.now.items in
    let code : List ℕ = hidden_code c.args.instance c.args.index in
    let kind : List ℕ = variable_kind c.args.variable.now.ty in
    let name : List ℕ = c.args.variable.now.name in
    on_put c.extend_from_slice-4.result _ _ _ _ c.extend_from_slice-4.ensures.items
    (λ e.
    e
    ∙ ap (λ (t : List ℕ). t ++ codes " $end\n")
    (c.in_ok-extend_from_slice-3.ensures.items
    ∙ ap (λ (n : List ℕ). c.extend_from_slice-2.new.self.items ++ n) c.as_bytes.ensures
    ∙ ap (λ (t : List ℕ). t ++ name)
    (c.in_ok-extend_from_slice-2.ensures.items
    ∙ ap (λ (t : List ℕ). t ++ codes " ")
    (c.in_ok-put_code.ensures ∙ ap (λ (t : List ℕ). t ++ code) (c.in_ok-extend_from_slice.ensures.items ∙ ap (λ (f : List ℕ). old ++ f) c.front_of.ensures))))
    ∙ declared old (codes "$var ") kind (codes " ") code name (codes " $end") (codes "\n"))
