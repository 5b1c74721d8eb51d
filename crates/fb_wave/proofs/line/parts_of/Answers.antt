use Rattle.fb_types.proofs.Common.{sym, subst}
use Rattle.fb_types.specs.declared.run.Form.{Form}
use Rattle.fb_wave.specs.Lines.{HasNoHead}
use Rattle.fb_wave.proofs.lemmas.Unlined.{no_a, no_b, no_class}
use Rattle.fb_wave.proofs.line.parts_of.Goals as goal

pub returns-in_err-a-in-Two-clause-head : goal.returns-in_err-a-in-Two-clause-head
returns-in_err-a-in-Two-clause-head c =
    rw c.from_residual-in_err-a-in-Two.ensures
    (subst (λ (f : Form). HasNoHead f c.args.text.now) (sym c.in-Two.is)
    (no_a c.args.text.now c.in_ok-class-in-Two.class.1.now c.in_ok-class-in-Two.class.0 c.in_ok-class-in-Two.ensures.range c.in_ok-class-in-Two.ensures.number
    c.in_err-a-in-Two.ensures.number))

pub returns-in_err-b-in-Two-clause-head : goal.returns-in_err-b-in-Two-clause-head
returns-in_err-b-in-Two-clause-head c =
    rw c.from_residual-in_err-b-in-Two.ensures
    (subst (λ (f : Form). HasNoHead f c.args.text.now) (sym c.in-Two.is)
    (no_b c.args.text.now c.in_ok-class-in-Two.class.1.now c.in_ok-a-in-Two.a.1.now c.in_ok-class-in-Two.class.0 c.in_ok-a-in-Two.a.0 c.in_ok-class-in-Two.ensures.range c.in_ok-a-in-Two.ensures.range
    c.in_ok-class-in-Two.ensures.number c.in_ok-a-in-Two.ensures.number c.in_err-b-in-Two.ensures.number))

pub returns-in_err-class_of-in-Two-clause-head : goal.returns-in_err-class_of-in-Two-clause-head
returns-in_err-class_of-in-Two-clause-head c =
    rw c.from_residual-in_err-class_of-in-Two.ensures
    (subst (λ (f : Form). HasNoHead f c.args.text.now) (sym c.in-Two.is)
    (no_class c.args.text.now c.in_ok-class-in-Two.class.1.now c.in_ok-class-in-Two.class.0 c.in_ok-class-in-Two.ensures.range c.in_ok-class-in-Two.ensures.number
    c.in_err-class_of-in-Two.ensures))
