use Rattle.fb_types.proofs.Common.{◌||◌, Bool, ap, false, sym, ◌∙◌, system_of}
use Rattle.fbsim_command.specs.Known.{any_event}
use Rattle.fbsim_command.proofs.lemmas.rules.SomeNumber.{port-there}
use Rattle.fbsim_command.proofs.known.has_port.Goals as goal

pub returns-then-is_taken : goal.returns-then-is_taken
returns-then-is_taken c =
    let sys = system_of c.args.system.now in
    port-there sys c.args.pattern.now c.count-instance-end.result c.loop-instance.instance c.count-instance-end.ensures c.loop-instance-test.true
    (ap (λ (b : Bool). b || any_event sys c.args.pattern.now c.loop-instance.instance false) (sym c.in_ok-is_taken.ensures ∙ c.if-is_taken.true))

pub returns-then-is_emitted : goal.returns-then-is_emitted
returns-then-is_emitted c =
    let sys = system_of c.args.system.now in
    port-there sys c.args.pattern.now c.count-instance-end.result c.loop-instance.instance c.count-instance-end.ensures c.loop-instance-test.true
    (ap (λ (b : Bool). b || any_event sys c.args.pattern.now c.loop-instance.instance false) (sym c.in_ok-is_taken.ensures ∙ c.if-is_taken.false)
    ∙ sym c.in_ok-is_emitted.ensures ∙ c.if-is_emitted.true)
