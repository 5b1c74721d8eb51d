use Rattle.fb_net.proofs.lemmas.Common.{◌≡◌, ℕ, [], ◌∷◌, ◌++◌, ◌∙◌, List, map, ap, sym, subst, refl, All, system_of, carried_of, event_output, path_at, spread, Line, Value, Changes, carried_by, outputs_at, outputs_shown, IsOut, out_of, Outbox}
use Rattle.fb_net.proofs.lemmas.emitting.Emitting.{Doing, are_carried, has_emitted, line_by}
use Rattle.fb_net.proofs.lemmas.blocks.BlocksKept.{kept-changed}
use Rattle.fb_net.proofs.taking.Taking.emit_one.Goals as goal

pub indexes_of-indexes-requires-clause-with : goal.indexes_of-indexes-requires-clause-with
indexes_of-indexes-requires-clause-with c = c.row_of-with.ensures.with

pub send_out-requires-clause-first : goal.send_out-requires-clause-first
send_out-requires-clause-first c = c.row_of-with.ensures.first

pub send_out-requires-clause-carried : goal.send_out-requires-clause-carried
send_out-requires-clause-carried c =
    are_carried (system_of c.args.self.now.system.now) c.args.instance c.indexes_of-indexes.result.now c.as_slice-2.result.now c.requires.index.number c.indexes_of-indexes.ensures.within

pub returns-clause-emitted : goal.returns-clause-emitted
returns-clause-emitted c =
    let i = c.args.self.now.system.now in
    let sys = system_of i in
    let k = c.args.instance in
    let e = c.args.emission in
    let indexes = c.indexes_of-indexes.result.now in
    let f = c.args.self.now.forest.now in
    let g = c.publish_all.new.forest in
    let x = c.args.self.now.outbox.now in
    let lies : sys.resource (path_at sys k) ≡ g.resource = c.requires.index.stands.here ∙ sym c.publish_all.ensures.resource in
    let y : Outbox = record { lines = c.push_reserved.new.self; outs = c.send_out.new.outs; timer = x.timer } in
    let done : Doing i c.args.self.now.key.now k f x e g y = record {
      indexes = indexes;
      stand = c.indexes_of-indexes.ensures;
      published = subst (λ (vs : List Value). Changes i f k (outputs_shown (outputs_at sys k indexes vs)) g) c.as_slice.ensures c.publish_all.ensures;
      sent =
          c.in_ok-send_out.ensures.sent
          ∙ ap (λ (vs : List Value). map (out_of sys) x.outs.items ++ spread sys (sys.resource (path_at sys k)) (map (carried_of sys) (carried_by k indexes vs)) (sys.targets (event_output sys k e.event))) c.as_slice-2.ensures
          ∙ ap (λ (r : ℕ). map (out_of sys) x.outs.items ++ spread sys r (map (carried_of sys) (carried_by k indexes e.values)) (sys.targets (event_output sys k e.event))) lies;
      belong = subst (λ (r : ℕ). All (IsOut sys r) x.outs.items → All (IsOut sys r) c.send_out.new.outs.items) lies c.in_ok-send_out.ensures.belong;
      lines = c.push_reserved.ensures.items ∙ ap (λ (ls : List Line). ls ++ line_by c.args.self.now.key.now k e ∷ []) c.in_ok-reserve.ensures.items;
      timer = refl;
    } in
    has_emitted i c.args.self.now.key.now k f x e g y done c.requires.index.number c.requires.index.stands.here c.requires.index.resource c.args.self.now.named c.requires.emission

pub returns-in_err-send_out-clause-whole : goal.returns-in_err-send_out-clause-whole
returns-in_err-send_out-clause-whole c = record {
  same = record { system = refl; key = refl; forest = refl; outbox = refl };
  kept = kept-changed c.args.self.now.system.now c.args.self.now.forest.now c.publish_all.new.forest c.args.instance _ c.publish_all.ensures c.requires.index.stands.here;
}

pub returns-in_err-reserve-clause-whole : goal.returns-in_err-reserve-clause-whole
returns-in_err-reserve-clause-whole c = record {
  same = record { system = refl; key = refl; forest = refl; outbox = refl };
  kept = kept-changed c.args.self.now.system.now c.args.self.now.forest.now c.publish_all.new.forest c.args.instance _ c.publish_all.ensures c.requires.index.stands.here;
}

pub returns-clause-whole : goal.returns-clause-whole
returns-clause-whole c = record {
  same = record { system = refl; key = refl; forest = refl; outbox = refl };
  kept = kept-changed c.args.self.now.system.now c.args.self.now.forest.now c.publish_all.new.forest c.args.instance _ c.publish_all.ensures c.requires.index.stands.here;
}
