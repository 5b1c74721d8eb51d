use Rattle.fb_net.proofs.lemmas.Common.{◌<◌, cond, [], ◌∷◌, length, refl, subst, arith, on_ok_weaker, system_of, path_at, ports_at, Target, LeadsTo, leaving}
use Rattle.fb_net.proofs.lemmas.taking.Arriving.{leaves}
use Rattle.fb_net.proofs.lemmas.emitting.PortRows.{at_output, indexes_out, one_with, source_out}
use Rattle.fb_net.proofs.lemmas.values.ReadIndexes.{one-shown}
use Rattle.fb_net.proofs.lemmas.taking.TakingSteps.{done-well}
use Rattle.fb_net.proofs.lemmas.blocks.BlocksKept.{kept-same}
use Rattle.fb_net.proofs.taking.Taking.leave.Goals as goal

pub shown_inside-requires-clause-variable : goal.shown_inside-requires-clause-variable
shown_inside-requires-clause-variable c =
    let sys = system_of c.args.self.now.system.now in
    let stand = indexes_out sys c.args.at _ c.requires.side (one_with sys c.args.at c.row_of-row.result.with _ _ c.in-One.is c.row_of-row.ensures.with).indexes in
    record { instance = c.requires.arrives.port.instance; variable = stand.within 0 0 (omega arith) }

pub shown_inside-requires-clause-source : goal.shown_inside-requires-clause-source
shown_inside-requires-clause-source c =
    let sys = system_of c.args.self.now.system.now in source_out sys c.args.at _ _ c.requires.side (one_with sys c.args.at c.row_of-row.result.with _ _ c.in-One.is c.row_of-row.ensures.with)

pub emit_value-requires-clause-index : goal.emit_value-requires-clause-index
emit_value-requires-clause-index c =
    let arrives = c.requires.arrives in record { number = arrives.port.instance; stands = arrives.stands; resource = arrives.ready.resource }

pub emit_value-requires-clause-event : goal.emit_value-requires-clause-event
emit_value-requires-clause-event c =
    let sys = system_of c.args.self.now.system.now in
    let its = ports_at sys (path_at sys c.args.at.instance) in
    subst (λ b. c.args.at.event < length (cond b its.event_outputs its.event_inputs)) c.requires.side c.requires.arrives.port.event

pub emit_value-requires-clause-first : goal.emit_value-requires-clause-first
emit_value-requires-clause-first c =
    subst (λ (t : Target). LeadsTo (system_of c.args.self.now.system.now) t 0 c.row_of-row.result.first) (at_output c.args.at c.requires.side) c.row_of-row.ensures.first

pub emit_value-requires-clause-indexes : goal.emit_value-requires-clause-indexes
emit_value-requires-clause-indexes c =
    let sys = system_of c.args.self.now.system.now in
    indexes_out sys c.args.at _ c.requires.side (one_with sys c.args.at c.row_of-row.result.with _ _ c.in-One.is c.row_of-row.ensures.with).indexes

pub returns-in-One-clause-left : goal.returns-in-One-clause-left
returns-in-One-clause-left c =
    let a = c.args.self.now in
    let b = c.emit_value.new.self in
    let at = c.args.at in
    let arrives = c.requires.arrives in
    let sys = system_of a.system.now in
    let stand = indexes_out sys at _ c.requires.side (one_with sys at c.row_of-row.result.with _ _ c.in-One.is c.row_of-row.ensures.with).indexes in
    let value = c.shown_inside.result.now in
    done-well (leaving a.system.now a.key.now at) a b c.emit_value.result
    (on_ok_weaker c.emit_value.result
    (λ well. leaves a.system.now a.key.now at a.forest.now b.forest.now a.outbox.now b.outbox.now (value ∷ [])
    (record { event = at.event; values = value ∷ [] } ∷ [])
    arrives.ready c.requires.side arrives.stands.here
    (one-shown a.system.now a.forest.now at c.in-One.variable value (value ∷ []) stand c.shown_inside.ensures refl) refl well.emitted)
    c.emit_value.ensures.emitted)
    (on_ok_weaker c.emit_value.result (λ well. well.outs) c.emit_value.ensures.emitted)

pub returns-in-One-clause-whole : goal.returns-in-One-clause-whole
returns-in-One-clause-whole c =
    let whole = c.emit_value.ensures.whole in
    record { same = record { system = whole.same.system; key = whole.same.key; forest = whole.same.forest; outbox = whole.same.outbox }; kept = whole.kept }

pub emit_one-requires-clause-index : goal.emit_one-requires-clause-index
emit_one-requires-clause-index c =
    let arrives = c.requires.arrives in record { number = arrives.port.instance; stands = arrives.stands; resource = arrives.ready.resource }

pub returns-clause-left : goal.returns-clause-left
returns-clause-left c =
    let a = c.args.self.now in
    let b = c.emit_one.new.self in
    let arrives = c.requires.arrives in
    done-well (leaving a.system.now a.key.now c.args.at) a b c.emit_one.result
    (on_ok_weaker c.emit_one.result
    (λ well. leaves a.system.now a.key.now c.args.at a.forest.now b.forest.now a.outbox.now b.outbox.now c.in_ok-values.values
    (record { event = c.args.at.event; values = c.in_ok-values.values } ∷ [])
    arrives.ready c.requires.side arrives.stands.here c.in_ok-values.ensures.shown refl well.emitted)
    c.emit_one.ensures.emitted)
    (on_ok_weaker c.emit_one.result (λ well. well.outs) c.emit_one.ensures.emitted)

pub returns-in_err-values-clause-whole : goal.returns-in_err-values-clause-whole
returns-in_err-values-clause-whole c = record { same = record { system = refl; key = refl; forest = refl; outbox = refl }; kept = kept-same c.args.self.now.system.now c.args.self.now.forest.now }

pub returns-clause-whole : goal.returns-clause-whole
returns-clause-whole c =
    let whole = c.emit_one.ensures.whole in
    record { same = record { system = whole.same.system; key = whole.same.key; forest = whole.same.forest; outbox = whole.same.outbox }; kept = whole.kept }
