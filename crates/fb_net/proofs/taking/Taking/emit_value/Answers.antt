use Rattle.fb_net.proofs.lemmas.Common.{◌≡◌, ℕ, [], ◌∷◌, ◌++◌, ◌∙◌, List, length, map, ap, sym, subst, refl, rules, arith, All, system_of, carried_of, event_output, path_at, spread, Line, Value, carried_by, outputs_at, outputs_shown, IsOut, out_of, Outbox}
use Rattle.fb_types.proofs.Common.{common_steps}
use Rattle.fb_types.specs.declared.run.Emission.{Emission}
use Rattle.fb_net.proofs.lemmas.blocks.Changing.{changes_as}
use Rattle.fb_net.proofs.lemmas.emitting.Emitting.{Doing, are_carried, has_emitted, line_by}
use Rattle.fb_net.proofs.lemmas.blocks.BlocksKept.{kept-changed}
use Rattle.fb_net.proofs.taking.Taking.emit_value.Goals as goal

pub publish-requires-clause-variable : goal.publish-requires-clause-variable
publish-requires-clause-variable c = record { instance = c.requires.index.number; variable = c.requires.indexes.within 0 0 (omega arith) }

pub send_out-requires-clause-carried : goal.send_out-requires-clause-carried
send_out-requires-clause-carried c =
    are_carried (system_of c.args.self.now.system.now) c.args.instance (c.args.variable ∷ []) c.from_ref.result.now c.requires.index.number c.requires.indexes.within

pub returns-clause-emitted : goal.returns-clause-emitted
returns-clause-emitted c =
    let i = c.args.self.now.system.now in
    let sys = system_of i in
    let key = c.args.self.now.key.now in
    let k = c.args.instance in
    let e : Emission = record { event = c.args.event; values = c.args.value.now ∷ [] } in
    let indexes = c.args.variable ∷ [] in
    let f = c.args.self.now.forest.now in
    let g = c.publish.new.self in
    let x = c.args.self.now.outbox.now in
    let y : Outbox = record { lines = c.push_reserved.new.self; outs = c.send_out.new.outs; timer = x.timer } in
    let lies : sys.resource (path_at sys k) ≡ g.resource = c.requires.index.stands.here ∙ sym c.publish.ensures.resource in
    let one : c.from_ref.result.now ≡ c.args.value.now ∷ [] = first_of (cc, search rules, search (rules, c.from_ref.ensures.value), grind (arith, common_steps)) in
    let done : Doing i key k f x e g y = record {
      indexes = indexes;
      stand = c.requires.indexes;
      published = changes_as (outputs_shown (outputs_at sys k indexes e.values)) c.publish.ensures (λ m. refl);
      sent = subst
          (λ (r : ℕ). map (out_of sys) c.send_out.new.outs.items ≡ map (out_of sys) x.outs.items ++ spread sys r (map (carried_of sys) (carried_by k indexes e.values)) (sys.targets (event_output sys k e.event)))
          lies
          (subst
          (λ (vs : List Value). map (out_of sys) c.send_out.new.outs.items ≡ map (out_of sys) x.outs.items ++ spread sys (sys.resource (path_at sys k)) (map (carried_of sys) (carried_by k indexes vs)) (sys.targets (event_output sys k e.event)))
          one c.in_ok-send_out.ensures.sent);
      belong = subst (λ (r : ℕ). All (IsOut sys r) x.outs.items → All (IsOut sys r) c.send_out.new.outs.items) lies c.in_ok-send_out.ensures.belong;
      lines =
          c.push_reserved.ensures.items
          ∙ ap (λ (vs : List Value). c.reserve.new.self.items ++ line_by key k (record { event = c.args.event; values = vs }) ∷ []) c.one-values.ensures
          ∙ ap (λ (ls : List Line). ls ++ line_by key k e ∷ []) c.in_ok-reserve.ensures.items;
      timer = refl;
    } in
    has_emitted i key k f x e g y done c.requires.index.number c.requires.index.stands.here c.requires.index.resource c.args.self.now.named
    (record { event = c.requires.event; values = ap length c.requires.indexes.named })

pub returns-in_err-send_out-clause-whole : goal.returns-in_err-send_out-clause-whole
returns-in_err-send_out-clause-whole c = record {
  same = record { system = refl; key = refl; forest = refl; outbox = refl };
  kept = kept-changed c.args.self.now.system.now c.args.self.now.forest.now c.publish.new.self c.args.instance _ c.publish.ensures c.requires.index.stands.here;
}

pub returns-in_err-reserve-clause-whole : goal.returns-in_err-reserve-clause-whole
returns-in_err-reserve-clause-whole c = record {
  same = record { system = refl; key = refl; forest = refl; outbox = refl };
  kept = kept-changed c.args.self.now.system.now c.args.self.now.forest.now c.publish.new.self c.args.instance _ c.publish.ensures c.requires.index.stands.here;
}

pub returns-clause-whole : goal.returns-clause-whole
returns-clause-whole c = record {
  same = record { system = refl; key = refl; forest = refl; outbox = refl };
  kept = kept-changed c.args.self.now.system.now c.args.self.now.forest.now c.publish.new.self c.args.instance _ c.publish.ensures c.requires.index.stands.here;
}
