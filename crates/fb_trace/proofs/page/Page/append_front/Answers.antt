use Rattle.std.proofs.Common.{◌+◌, ◌-◌, ◌++◌, take, List, ℕ, ap, ◌∙◌, arith}
use Rattle.fb_trace.specs.Page.{Page}
use Rattle.fb_trace.proofs.lemmas.digits.CopiedRows.{front_of_row}
use Rattle.fb_trace.proofs.page.Page.append_front.Goals as goal

pub returns-clause-text : goal.returns-clause-text
returns-clause-text g c =
    let p = c.self.inside in
    let row = c.args.row.now in
    let n = c.args.count in
    ap (λ (t : List ℕ). record { waiting = t; written = p.written })
    (front_of_row p.used n (p.used + g.row.N - p.used) p.bytes c.copy_row.new.to row (omega arith) (omega arith) c.copy_row.ensures)
    ∙ ap (λ (q : Page). record { waiting = q.waiting ++ take n row; written = q.written }) c.self.view_is
