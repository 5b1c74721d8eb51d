use Rattle.std.proofs.Common.{◌++◌, List, ℕ, take, ap, ◌∙◌}
use Rattle.fb_trace.specs.Page.{Page}
use Rattle.fb_trace.proofs.page.Page.append_small.Goals as goal

pub returns-clause-text : goal.returns-clause-text
returns-clause-text c =
    let row = c.digits_of-row in
    c.append_front.ensures.text ∙ ap (λ (p : Page). record p { waiting = p.waiting ++ take row.result.width row.result.text }) row.ensures.kept ∙ ap (λ (t : List ℕ). record c.args.self.now { waiting = c.args.self.now.waiting ++ t }) row.ensures.digits
