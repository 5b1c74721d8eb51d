use Rattle.fb_wave.proofs.lemmas.Common.{Option, refl, sym, subst, ◌∙◌, arith, IfSome, system_of, Line, RefusesLine, IsTextOf}
use Rattle.fb_wave.proofs.lemmas.Lining.{same_line}
use Rattle.fb_wave.proofs.lemmas.Handing.{ok_passed, on_passed}
use Rattle.fb_wave.proofs.copy.Progress.take.Goals as goal

pub returns-clause-taken : goal.returns-clause-taken
returns-clause-taken c =
    let sys = system_of c.args.table.now.system.now in
    record {
      line = c.in-Some.line;
      is = subst (λ (o : Option Line). IfSome o (λ l. IsTextOf sys c.args.form l c.args.line.now)) c.in-Some.is c.in_ok-line.ensures.line;
      rises = c.if-line-self.false;
      tick = refl;
      numbers = c.in_ok-take.ensures.numbers;
      kept = refl;
      shown = c.in_ok-take.ensures.shown;
    }

pub returns-in_err-line-clause-taken : goal.returns-in_err-line-clause-taken
returns-in_err-line-clause-taken c = ok_passed c.from_residual.result _ _ c.from_residual.ensures.1

pub returns-in_err-take-clause-taken : goal.returns-in_err-take-clause-taken
returns-in_err-take-clause-taken c = ok_passed c.from_residual-in_err-take.result _ _ c.from_residual-in_err-take.ensures.1

pub returns-in_err-line-clause-tick : goal.returns-in_err-line-clause-tick
returns-in_err-line-clause-tick c = on_passed _ _ _ c.from_residual.ensures.1 refl

pub returns-in_err-take-clause-tick : goal.returns-in_err-take-clause-tick
returns-in_err-take-clause-tick c = on_passed _ _ _ c.from_residual-in_err-take.ensures.1 refl

pub returns-in_err-line-clause-fault : goal.returns-in_err-line-clause-fault
returns-in_err-line-clause-fault c = on_passed _ _ _ c.from_residual.ensures.1 tt

pub returns-in_err-take-clause-fault : goal.returns-in_err-take-clause-fault
returns-in_err-take-clause-fault c = on_passed _ _ _ c.from_residual-in_err-take.ensures.1 tt

pub returns-then-line-self-clause-refused : goal.returns-then-line-self-clause-refused
returns-then-line-self-clause-refused c names =
    let sys = system_of c.args.table.now.system.now in
    let is : IsTextOf sys c.args.form c.in-Some.line c.args.line.now = subst (λ (o : Option Line). IfSome o (λ l. IsTextOf sys c.args.form l c.args.line.now)) c.in-Some.is c.in_ok-line.ensures.line in (
      refl,
      λ l other rises.
          let same = (same_line sys c.args.form c.args.form c.in-Some.line l names is.line other.line (sym is.is ∙ other.is)).1 in
          let fell = c.if-line-self.true in
          omega (arith, same, fell, rises),
    )

pub returns-in_err-line-clause-refused : goal.returns-in_err-line-clause-refused
returns-in_err-line-clause-refused c names = on_passed _ _ (RefusesLine (system_of c.args.table.now.system.now) c.args.form c.args.self.now.tick c.args.number c.args.line.now) c.from_residual.ensures.1 tt

pub returns-in_err-take-clause-refused : goal.returns-in_err-take-clause-refused
returns-in_err-take-clause-refused c names = on_passed _ _ (RefusesLine (system_of c.args.table.now.system.now) c.args.form c.args.self.now.tick c.args.number c.args.line.now) c.from_residual-in_err-take.ensures.1 tt
