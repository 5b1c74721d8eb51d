use Rattle.std.proofs.Common.{Bool, sym, ◌∙◌, ap}
use Rattle.fb_coverage.specs.Sets as spec
use Rattle.fb_coverage.specs.declared.table.Table.{Table}
use Rattle.fb_coverage.proofs.marks.PortMarks.mark.Goals as goal

pub returns-then-taken : goal.returns-then-taken
returns-then-taken c =
    let m = c.args.self.now in
    ap (λ (t : Table). record m { inputs = t }) c.set.ensures ∙ sym (ap (λ (b : Bool). spec.with_port c.args.instance b c.args.event m) c.if-taken.true)

pub returns-else-taken : goal.returns-else-taken
returns-else-taken c =
    let m = c.args.self.now in
    ap (λ (t : Table). record m { outputs = t }) c.set-else-taken.ensures ∙ sym (ap (λ (b : Bool). spec.with_port c.args.instance b c.args.event m) c.if-taken.false)
