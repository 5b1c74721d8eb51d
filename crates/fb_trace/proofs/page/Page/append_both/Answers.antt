use Rattle.fb_types.proofs.Common.{◌≡◌, ◌+◌, ◌++◌, take, length, List, ℕ, ap, sym, ◌∙◌, arith, length-take-le}
use Rattle.fb_trace.specs.Page.{Page}
use Rattle.fb_trace.proofs.lemmas.digits.CopiedRows.{fronts_of_rows}
use Rattle.fb_trace.proofs.page.Page.append_both.Goals as goal

pub returns-clause-text : goal.returns-clause-text
returns-clause-text g c =
    let p = c.self.inside in
    let n = c.args.count in
    let m = c.args.more in
    let row = c.args.first.now in
    let line = c.args.second.now in
    let used : length c.args.self.now.waiting ≡ p.used = ap (λ (q : Page). length q.waiting) (sym c.self.view_is) ∙ length-take-le p.used p.bytes (omega arith) in
    ap (λ (t : List ℕ). record { waiting = t; written = p.written })
    (fronts_of_rows p.used n m g.row.N g.row.M p.bytes c.copy_row.new.to row c.copy_row-2.new.to line (omega (arith, used)) (omega arith) (omega arith) (omega arith) (omega arith) c.copy_row.ensures c.copy_row-2.ensures)
    ∙ ap (λ (q : Page). record { waiting = q.waiting ++ (take n row ++ take m line); written = q.written }) c.self.view_is
