use Rattle.fb_inspect.proofs.lemmas.Common.{◌≡◌, ℕ, List, ◌++◌, codes, ap, ◌∙◌, append_assoc, Variable, listed, map}
use Rattle.std.proofs.Common.{Bor}
use Rattle.fb_wave.specs.Scopes.{declares}
use Rattle.fb_wave.proofs.lemmas.Handing.{on_ok}
use Rattle.fb_inspect.specs.dump.Inner.{hidden_declared, lost_code, state_code}
use Rattle.fb_inspect.specs.walk.Notes.{hidden_variables}
use Rattle.fb_inspect.proofs.lemmas.dump.Hidden.{listed_lent}
use Rattle.fb_inspect.proofs.dump.inner.put_chart.Goals as goal

regroup : (o a b d : List ℕ) → ((o ++ a) ++ b) ++ d ≡ o ++ ((a ++ b) ++ d)
regroup o a b d = simp append_assoc

pub returns : goal.returns
returns c =
    let i = c.args.instance in
    let old = c.args.text.now.items in
    let front : List ℕ = declares (codes "string 1") (state_code i) (codes "state") in
    let inside : List ℕ = listed (hidden_declared i) 0 (hidden_variables c.args.block.now) in
    let ends : List ℕ = declares (codes "event 1") (lost_code i) (codes "lost") in
    on_ok c.put_lost_signal.result _ _ c.put_lost_signal.ensures
    (λ e.
    e
    ∙ ap (λ (t : List ℕ). t ++ ends)
    (c.in_ok-put_all_hidden.ensures
    ∙ ap (λ (t : List ℕ). c.put_state_signal.new.text.items ++ t)
    (listed_lent (hidden_declared i) 0 c.as_slice.result.now
    ∙ ap (λ (vs : List Variable). listed (hidden_declared i) 0 vs) (ap (map (λ (v : Bor Variable). v.now)) c.as_slice.ensures.value ∙ c.in_ok-hidden.ensures))
    ∙ ap (λ (t : List ℕ). t ++ inside) c.in_ok-put_state_signal.ensures)
    ∙ regroup old front inside ends)
