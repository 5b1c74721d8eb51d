use Rattle.std.proofs.Common.{ℕ, List, [], ◌∷◌, ◌++◌, ◌∙◌, ap, codes}
use Rattle.fb_text.specs.Conditions.{condition_text}
use Rattle.fb_text.specs.Pieces.{joined}
use Rattle.fb_text.proofs.lemmas.Adding.{put_three}
use Rattle.fb_coverage.proofs.block_report.put_transition.Goals as goal

abbrev head : (from to : List ℕ) → List ℕ
head from to = joined (codes "  transition " ∷ from ∷ codes " -> " ∷ to ∷ codes " by " ∷ [])

pub returns : goal.returns
returns c =
    let t = c.args.transition.now in
    let old = c.args.text.now.items in
    put_three c.extend_from_slice.result old (head t.from t.to) (condition_text t.condition.event t.condition.guard) (codes " never cleared\n")
    c.put_all.new.text.items c.put_condition.new.text.items c.extend_from_slice.new.self.items
    (c.in_ok-put_all.ensures ∙ ap (λ (from : List ℕ). old ++ head from c.as_bytes-2.result.now) c.as_bytes.ensures
    ∙ ap (λ (to : List ℕ). old ++ head t.from to) c.as_bytes-2.ensures)
    c.in_ok-put_condition.ensures c.extend_from_slice.ensures.items
