use Rattle.fb_types.proofs.Common.{List, None, subst, Point, body_of, Types}
use Rattle.fb_types.specs.declared.text.Stmt.{Stmt}
use Rattle.fb_st.specs.Flows.{all_of, point}
use Rattle.fb_st.specs.Frames.{declared_in, types_in}
use Rattle.fb_stop.specs.Blamed.{End, RunsAll}
use Rattle.fb_stop.specs.Ends.{end_of}
use Rattle.fb_stop.proofs.lemmas.numbers.Defined.{all_plainly}
use Rattle.fb_stop.proofs.body.run_body.Goals as goal

pub returns-clause-defined : goal.returns-clause-defined
returns-clause-defined c =
    let T : Types = types_in (declared_in c.args.frame.now) in
    let p : Point = point c.args.frame.now c.args.meter.now in
    let q : Point = point c.run_each.new.frame c.run_each.new.meter in
    let e : End = end_of c.run_each.result in
    all_plainly T None 0 (body_of c.args.body.now) p e q (subst (λ (ss : List Stmt). RunsAll T None 0 (all_of ss) p e q) c.as_slice.ensures c.run_each.ensures.run)

pub returns-clause-run : goal.returns-clause-run
returns-clause-run c =
    let T : Types = types_in (declared_in c.args.frame.now) in
    let p : Point = point c.args.frame.now c.args.meter.now in
    let q : Point = point c.run_each.new.frame c.run_each.new.meter in
    subst (λ (ss : List Stmt). RunsAll T None 0 (all_of ss) p (end_of c.run_each.result) q) c.as_slice.ensures c.run_each.ensures.run

pub returns-clause-declared : goal.returns-clause-declared
returns-clause-declared c = c.run_each.ensures.kept.declared

pub returns-clause-fewer : goal.returns-clause-fewer
returns-clause-fewer c = c.run_each.ensures.kept.fewer
