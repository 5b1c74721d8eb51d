use Rattle.std.proofs.Common.{ℕ, List, ◌++◌, codes, ap, ◌∙◌, append_assoc, append-nil}
use Rattle.fb_wave.specs.Changes.{event_code, count_code}
use Rattle.fb_wave.specs.Scopes.{declares}
use Rattle.fb_wave.proofs.lemmas.Handing.{on_ok}
use Rattle.fb_wave.proofs.declared.put_event.Goals as goal

pub returns : goal.returns
returns c =
    let old = c.args.text.now.items in
    let n = c.args.name.now in
    let s = c.args.signal in
    on_ok c.put_declared-2.result _ _ c.put_declared-2.ensures
    (λ e.
    e
    ∙ ap (λ (l : List ℕ). l ++ declares (codes "reg 64") (count_code s) (n ++ codes "_count"))
    (c.in_ok-put_declared.ensures ∙ ap (λ (l : List ℕ). old ++ declares (codes "event 1") (event_code s) l) (append-nil n))
    ∙ append_assoc old (declares (codes "event 1") (event_code s) n) (declares (codes "reg 64") (count_code s) (n ++ codes "_count")))
