use Rattle.fb_inspect.proofs.lemmas.Common.{Option, sym, subst, ◌∙◌, IfNone, system_of, Outcome, IsLast, IsNoLast}
use Rattle.fb_inspect.proofs.lemmas.lines.NearStop.{far_end, far_mark, far_none, near_text, true_not}
use Rattle.fb_inspect.proofs.walk.is_own_stop.Goals as goal

pub returns-in-Stop-clause-stop : goal.returns-in-Stop-clause-stop
returns-in-Stop-clause-stop c = λ yes.
    let sys = system_of c.args.fixed.now.table.now.system.now in
    near_text sys c.args.line.now c.args.text.now c.in-Stop.mark (c.is_steps_of.ensures.0 yes) (subst (IsLast sys c.args.text.now) c.in-Stop.is c.in-Some.ensures.last)

pub returns-in-Stop-clause-other : goal.returns-in-Stop-clause-other
returns-in-Stop-clause-other c = λ names apart is no text.
    let sys = system_of c.args.fixed.now.table.now.system.now in
    far_mark sys names apart c.args.line.now is c.args.text.now c.in-Stop.mark (subst (IsLast sys c.args.text.now) c.in-Stop.is c.in-Some.ensures.last)
    (λ same. true_not (sym (c.is_steps_of.ensures.1 same) ∙ no)) text

pub returns-in-End-clause-other : goal.returns-in-End-clause-other
returns-in-End-clause-other c = λ names apart is no text.
    let sys = system_of c.args.fixed.now.table.now.system.now in
    far_end sys names apart c.args.line.now is c.args.text.now c.in-End.field-0 (subst (IsLast sys c.args.text.now) c.in-End.is c.in-Some.ensures.last) text

pub returns-in_default-clause-other : goal.returns-in_default-clause-other
returns-in_default-clause-other c = λ names apart is no text.
    let sys = system_of c.args.fixed.now.table.now.system.now in
    far_none sys c.args.line.now is c.args.text.now (subst (λ (o : Option Outcome). IfNone o (IsNoLast sys c.args.text.now)) c.in_default.is (c.read_last.ensures.none names)) text
