use Rattle.std.proofs.Common.{refl}
use Rattle.fb_lint.specs.Warnings as spec
use Rattle.fb_lint.proofs.lemmas.WarningLists.{four_found}
use Rattle.fb_lint.proofs.lint.push_of_basic.Goals as goal

pub returns : goal.returns
returns c =
    let t = c.args.basic.now in
    let b = c.args.of.now.block in
    four_found c.push_of_statements.result c.args.all.now.items c.push_readings.new.all.items c.push_of_chart.new.all.items c.push_of_ports.new.all.items _
    (spec.readings c.args.of.now.library.now c.args.of.now.name.now b t) (spec.of_chart b t) (spec.of_ports b t) (spec.of_statements b t) _
    c.in_ok-push_readings.ensures c.in_ok-push_of_chart.ensures c.in_ok-push_of_ports.ensures refl c.push_of_statements.ensures
