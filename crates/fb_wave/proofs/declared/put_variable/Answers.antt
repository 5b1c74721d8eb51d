use Rattle.std.proofs.Common.{◌≡◌, ℕ, List, [], ◌++◌, decimal, codes, ap, ◌∙◌, append_assoc, append-nil}
use Rattle.fb_wave.specs.Changes.{line}
use Rattle.fb_wave.specs.Scopes.{variable_kind}
use Rattle.fb_wave.proofs.lemmas.Handing.{on_ok}
use Rattle.fb_wave.proofs.declared.put_variable.Goals as goal

-- a letter that is at the end of a front, or at the beginning of what the dump calls a signal
with_letter : (k d n : List ℕ) → (((k ++ codes " v") ++ d) ++ codes " ") ++ (n ++ []) ≡ (((k ++ codes " ") ++ (codes "v" ++ d)) ++ codes " ") ++ n
with_letter k d n = simp (append_assoc, append-nil)

pub returns : goal.returns
returns c =
    let old = c.args.text.now.items in
    let n = c.args.name.now in
    let s = decimal c.args.signal in
    let all : List ℕ → List ℕ = λ l. old ++ line (l ++ codes " $end") in
    on_ok c.put_declared.result _ _ c.put_declared.ensures
    (λ e.
    e
    ∙ ap (λ (f : List ℕ). all (((f ++ s) ++ codes " ") ++ (n ++ []))) c.front_of.ensures
    ∙ ap all (with_letter (codes "$var " ++ variable_kind c.args.ty) s n))
