use Rattle.fb_net.proofs.lemmas.Common.{◌<◌, cond, [], ◌∷◌, ◌∙◌, List, length, map, refl, sym, ap, subst, arith, on_ok_weaker, system_of, Name, path_at, ports_at, Value, variable_at, sampling, all_sampled, names_in, Changes}
use Rattle.fb_net.proofs.lemmas.blocks.Changing.{changes_as}
use Rattle.fb_net.proofs.lemmas.emitting.PortRows.{indexes_in, source_in}
use Rattle.fb_net.proofs.lemmas.emitting.OutboxKept.{lines-put}
use Rattle.fb_net.proofs.lemmas.taking.TakingSteps.{done-well}
use Rattle.fb_net.proofs.lemmas.values.Sampling.{one-sampled, sampling-represents}
use Rattle.fb_net.proofs.lemmas.blocks.BlocksKept.{kept-changed}
use Rattle.fb_net.proofs.taking.Taking.keep_value.Goals as goal

pub sampled-value-requires-clause-variable : goal.sampled-value-requires-clause-variable
sampled-value-requires-clause-variable c =
    let stand = indexes_in (system_of c.args.self.now.system.now) c.args.at (c.args.variable ∷ []) c.requires.may.input c.requires.one.indexes in
    record { instance = c.requires.may.arrives.port.instance; variable = stand.within 0 0 (omega arith) }

pub sampled-value-requires-clause-source : goal.sampled-value-requires-clause-source
sampled-value-requires-clause-source c = source_in (system_of c.args.self.now.system.now) c.args.at c.args.variable c.args.source.now c.requires.may.input c.requires.one

pub set_input-requires-clause-variable : goal.set_input-requires-clause-variable
set_input-requires-clause-variable c =
    let stand = indexes_in (system_of c.args.self.now.system.now) c.args.at (c.args.variable ∷ []) c.requires.may.input c.requires.one.indexes in
    record { instance = c.requires.may.arrives.port.instance; variable = stand.within 0 0 (omega arith) }

pub set_input-requires-clause-takes : goal.set_input-requires-clause-takes
set_input-requires-clause-takes c = record { no_basic = c.requires.may.no_basic }

pub write_taken-requires-clause-line : goal.write_taken-requires-clause-line
write_taken-requires-clause-line c =
    let sys = system_of c.args.self.now.system.now in
    let its = ports_at sys (path_at sys c.args.at.instance) in
    let stand = indexes_in sys c.args.at (c.args.variable ∷ []) c.requires.may.input c.requires.one.indexes in
    record {
      instance = c.requires.may.arrives.port.instance;
      resource = c.args.self.now.named;
      event = subst (λ b. c.args.at.event < length (cond b its.event_outputs its.event_inputs)) c.requires.may.input c.requires.may.arrives.port.event;
      values = ap length c.one-values.ensures ∙ ap length stand.named;
    }

pub returns-clause-taken : goal.returns-clause-taken
returns-clause-taken c =
    let i = c.args.self.now.system.now in
    let sys = system_of i in
    let at = c.args.at in
    let may = c.requires.may in
    let f = c.args.self.now.forest.now in
    let g = c.set_input.new.self in
    let x = c.args.self.now.outbox.now in
    let y = c.write_taken.new.outbox in
    let stand = indexes_in sys at (c.args.variable ∷ []) may.input c.requires.one.indexes in
    let value = c.sampled-value.result.now in
    let values = c.one-values.result in
    let is = c.one-values.ensures in
    let name = variable_at (ports_at sys (path_at sys at.instance)).inputs in
    let by_name = subst (λ (ns : List Name). Changes i f at.instance (all_sampled ns (value ∷ [])) g) stand.named
    (changes_as (all_sampled (map name (c.args.variable ∷ [])) (value ∷ [])) c.set_input.ensures (λ m. refl)) in
    let changes = subst (λ (vs : List Value). Changes i f at.instance (all_sampled (names_in sys at) vs) g) (sym is) by_name in
    let sampled = one-sampled i f at c.args.variable value values stand c.sampled-value.ensures is in
    done-well (sampling i c.args.self.now.key.now at) c.args.self.now _ c.write_taken.result
    (on_ok_weaker c.write_taken.result
    (λ written. sampling-represents i c.args.self.now.key.now at f g x y values may.arrives.ready may.input may.arrives.stands.here sampled changes written c.write_taken.ensures.outs c.write_taken.ensures.timer)
    c.write_taken.ensures.written)
    (on_ok_weaker c.write_taken.result (lines-put i f g x y c.set_input.ensures.resource c.write_taken.ensures.outs) c.write_taken.ensures.lines)

pub returns-clause-whole : goal.returns-clause-whole
returns-clause-whole c = record {
  same = record { system = refl; key = refl; forest = refl; outbox = refl };
  kept = kept-changed c.args.self.now.system.now c.args.self.now.forest.now c.set_input.new.self c.args.at.instance _ c.set_input.ensures c.requires.may.arrives.stands.here;
}
