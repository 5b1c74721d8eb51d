use Rattle.fb_types.proofs.Common.{◌≡◌, ◌≢◌, ◌-◌, ◌∙◌, ℕ, suc, None, sym, ap, subst, arith, Point, body_of}
use Rattle.fb_st.specs.Flows.{point}
use Rattle.fb_st.specs.Frames.{declared_in, types_in, values_of}
use Rattle.fb_stop.specs.Blamed.{End, RunsAll, Stopped}
use Rattle.fb_stop.specs.Ends.{end_of}
use Rattle.fb_stop.proofs.lemmas.numbers.NothingSaid.{goes_otherwise, stops_otherwise}
use Rattle.fb_stop.proofs.before.inside_body.Goals as goal

one_less : (n : ℕ) → n ≢ 0 → n ≡ suc (n - 1)
one_less n h = omega arith

pub returns-in_ok-fault-in-Err-clause-found : goal.returns-in_ok-fault-in-Err-clause-found
returns-in_ok-fault-in-Err-clause-found c =
    let types = types_in (declared_in c.args.frame.now) in
    let body = c.args.body.now in
    let start : Point = record { vars = values_of c.args.frame.now; left = c.args.left - 1 } in
    let end : Point = point c.run_body.new.frame c.run_body.new.meter in
    record {
      rest = c.args.left - 1;
      counted = one_less c.args.left c.if-left-eq0.false;
      end = end;
      runs = subst (λ (e : End). RunsAll types None 0 (body_of body) start e end) (ap end_of c.in-Err.is ∙ ap Stopped c.in_ok-fault-in-Err.ensures.found) c.in_ok-run_body.ensures.run;
      operation = c.operation_of-operation.ensures.found;
      otherwise = c.operation_of-operation.ensures.none;
    }

pub returns-then-left-eq0-clause-none : goal.returns-then-left-eq0-clause-none
returns-then-left-eq0-clause-none c = λ rest q more run. let e : 0 ≡ suc rest = sym c.if-left-eq0.true ∙ more in cc

pub returns-in_err-run_body-clause-none : goal.returns-in_err-run_body-clause-none
returns-in_err-run_body-clause-none c = absurd (c.run_body.ensures.some c.requires c.in_err-run_body.was)

pub returns-in-Ok-clause-none : goal.returns-in-Ok-clause-none
returns-in-Ok-clause-none c =
    goes_otherwise (types_in (declared_in c.args.frame.now)) c.args.body.now (values_of c.args.frame.now) c.args.left c.args.reason _ c.in-Ok.field-0 _ c.in-Ok.is c.in_ok-run_body.ensures.defined

pub returns-in_err-fault-in-Err-clause-none : goal.returns-in_err-fault-in-Err-clause-none
returns-in_err-fault-in-Err-clause-none c =
    rw c.from_residual-in_err-fault-in-Err.ensures
    (stops_otherwise (types_in (declared_in c.args.frame.now)) c.args.body.now (values_of c.args.frame.now) c.args.left c.args.reason _ c.in-Err.fault _ c.in-Err.is c.in_ok-run_body.ensures.defined
    c.in_err-fault-in-Err.ensures.none)
