use Rattle.fb_inspect.proofs.lemmas.Common.{Option, sym, subst, ◌∙◌, false≢true, IfNone, IfSome, system_of, Line, Outcome, IsNoLast, IsTextOf}
use Rattle.fb_wave.specs.Lines.{IsNoTextOf}
use Rattle.fb_inspect.proofs.lemmas.lines.Judged.{end_early, line_early, none_there}
use Rattle.fb_inspect.proofs.walk.reading.judged.Goals as goal

pub returns-then-not-can_end : goal.returns-then-not-can_end
returns-then-not-can_end c = λ names.
    end_early (system_of c.args.table.now.system.now) c.args.form c.args.tick c.args.line.now c.in-Some.end c.in-Some.ensures.last
    (λ after. false≢true (sym c.if-not-can_end.true ∙ c.can_end.ensures.1 after))

pub returns-in_default-2 : goal.returns-in_default-2
returns-in_default-2 c = λ names.
    let sys = system_of c.args.table.now.system.now in
    none_there sys c.args.form c.args.tick c.args.line.now
    (subst (λ (o : Option Outcome). IfNone o (IsNoLast sys c.args.line.now)) c.in_default.is (c.read_last.ensures.none names))
    (subst (λ (o : Option Line). IfNone o (IsNoTextOf sys c.args.form c.args.line.now)) c.in_default-2.is (c.in_ok-event.ensures.none names))

pub returns-then-event-tick : goal.returns-then-event-tick
returns-then-event-tick c = λ names.
    let sys = system_of c.args.table.now.system.now in
    line_early c.args.table.now c.args.form c.args.tick c.args.line.now c.in-Some-2.event
    (subst (λ (o : Option Line). IfSome o (λ l. IsTextOf sys c.args.form l c.args.line.now)) c.in-Some-2.is c.in_ok-event.ensures.line) c.if-event-tick.true
    (subst (λ (o : Option Outcome). IfNone o (IsNoLast sys c.args.line.now)) c.in_default.is (c.read_last.ensures.none names)) names
