use Rattle.fb_types.proofs.Common.{List, Option, subst, IfNone, IfSome, system_of}
use Rattle.fb_types.specs.declared.value.Value.{Value}
use Rattle.fb_wave.specs.Lines.{AreNoValuesOf, AreValuesOf}
use Rattle.fb_wave.proofs.lemmas.Gluing.{line_read}
use Rattle.fb_wave.proofs.lemmas.Unlined.{headless, portless, tickless, valueless}
use Rattle.fb_wave.proofs.line.read_line.Goals as goal

pub returns-clause-line : goal.returns-clause-line
returns-clause-line c =
    let sys = system_of c.args.table.now.system.now in
    let port = c.in-Some-find.found.0 in
    let rest = c.in-Some-find.found.1.now in
    line_read sys c.args.form port.instance port.event port.taken _ _ _ _ c.args.text.now _ _ rest c.in-Some.ensures.head c.in-Some-tick.ensures.tick c.in-Some-find.ensures.found.port
    c.in-Some-find.ensures.found.parts
    (subst (λ (o : Option (List Value)). IfSome o (AreValuesOf sys port rest)) c.in-Some-2.is c.in_ok-values.ensures.values) c.holder_of.ensures.held c.holder_of.ensures.within
    (record { tick = c.in-Some-tick.ensures.range; class = c.in-Some.ensures.range.class; a = c.in-Some.ensures.range.a; b = c.in-Some.ensures.range.b })

pub returns-in_default-clause-none : goal.returns-in_default-clause-none
returns-in_default-clause-none c names = headless (system_of c.args.table.now.system.now) c.args.form c.args.text.now c.in_default.ensures.head

pub returns-in_default-tick-clause-none : goal.returns-in_default-tick-clause-none
returns-in_default-tick-clause-none c names =
    tickless (system_of c.args.table.now.system.now) c.args.form c.args.text.now c.in-Some.head.1.now c.in-Some.head.0 c.in-Some.ensures.head c.in-Some.ensures.range
    c.in_default-tick.ensures.tick

pub returns-in_default-find-clause-none : goal.returns-in_default-find-clause-none
returns-in_default-find-clause-none c names =
    portless (system_of c.args.table.now.system.now) c.args.form c.args.text.now c.in-Some.head.1.now c.in-Some.head.0 c.in-Some.ensures.head c.in-Some.ensures.range
    c.in-Some-tick.tick.0 c.in-Some-tick.tick.1.now c.in-Some-tick.ensures.range c.in-Some-tick.ensures.tick (c.in_default-find.ensures.none names)

pub returns-in_default-2-clause-none : goal.returns-in_default-2-clause-none
returns-in_default-2-clause-none c names =
    let sys = system_of c.args.table.now.system.now in
    let port = c.in-Some-find.found.0 in
    let rest = c.in-Some-find.found.1.now in
    valueless c.args.table.now names c.args.form c.args.text.now c.in-Some.head.1.now c.in-Some-tick.tick.1.now rest c.in-Some.head.0 c.in-Some-tick.tick.0 port
    c.in-Some.ensures.head c.in-Some.ensures.range c.in-Some-tick.ensures.tick c.in-Some-tick.ensures.range c.in-Some-find.ensures.found
    (subst (λ (o : Option (List Value)). IfNone o (AreNoValuesOf sys port rest)) c.in_default-2.is (c.in_ok-values.ensures.none c.args.table.now.accepted))
