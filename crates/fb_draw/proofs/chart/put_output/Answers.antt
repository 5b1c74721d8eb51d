use Rattle.std.proofs.Common.{ℕ, List, [], ◌++◌, append-nil, sym, ◌∙◌, ap, codes}
use Rattle.fb_draw.specs.Charts as spec
use Rattle.fb_text.proofs.lemmas.Adding.{put_as}
use Rattle.fb_draw.proofs.chart.put_output.Goals as goal

pub returns-in-Some : goal.returns-in-Some
returns-in-Some c =
    let name = c.as_bytes.result.now in
    put_as c.put_all.result _ _ (codes " -> " ++ (name ++ [])) _
    (ap (λ (n : List ℕ). codes " -> " ++ n) (append-nil name ∙ c.as_bytes.ensures) ∙ sym (ap spec.output_text c.in-Some.is)) c.put_all.ensures
