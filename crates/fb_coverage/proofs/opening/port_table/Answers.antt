use Rattle.fb_types.proofs.Common.{◌<◌, ◌++◌, ℕ, Bool, List, [], ◌∷◌, ◌∙◌, ap, subst, system_of}
use Rattle.fb_coverage.specs.Openings.{port_row}
use Rattle.fb_coverage.proofs.lemmas.Listed.{mapped_more}
use Rattle.fb_coverage.proofs.opening.port_table.Goals as goal

pub loop-instance-preserved : goal.loop-instance-preserved
loop-instance-preserved c =
    let sys = system_of c.args.system.now in
    let i = c.loop-instance.instance in
    let within = subst (λ (n : ℕ). i < n) c.count-instance-end.ensures c.loop-instance-test.true in
    mapped_more (port_row sys c.args.side) sys.paths i [] c.loop-instance.table.rows c.push.new.self.rows within c.loop-instance.invariant
    (c.in_ok-push.ensures ∙ ap (λ (r : List Bool). c.loop-instance.table.rows ++ r ∷ []) c.in_ok-port_row.ensures)
