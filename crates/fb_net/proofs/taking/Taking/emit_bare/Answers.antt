use Rattle.fb_net.proofs.lemmas.Common.{ℕ, [], ◌∷◌, ◌++◌, ◌∙◌, List, map, ap, subst, refl, All, system_of, event_output, spread, Line, Value, IsOut, out_of, Outbox}
use Rattle.fb_net.specs.Emitting.{bare}
use Rattle.fb_net.proofs.lemmas.emitting.Emitting.{Doing, has_emitted, line_by, no_indexes}
use Rattle.fb_net.proofs.lemmas.emitting.Publishing.{nothing_shown}
use Rattle.fb_net.proofs.lemmas.blocks.BlocksKept.{kept-same}
use Rattle.fb_net.proofs.taking.Taking.emit_bare.Goals as goal

pub send_out-requires-clause-first : goal.send_out-requires-clause-first
send_out-requires-clause-first c = c.row_of-row.ensures.first

pub returns-clause-emitted : goal.returns-clause-emitted
returns-clause-emitted c =
    let i = c.args.self.now.system.now in
    let sys = system_of i in
    let key = c.args.self.now.key.now in
    let k = c.args.instance in
    let e = bare c.args.event in
    let f = c.args.self.now.forest.now in
    let x = c.args.self.now.outbox.now in
    let y : Outbox = record { lines = c.push_reserved.new.self; outs = c.send_out.new.outs; timer = x.timer } in
    let lies = c.requires.index.stands.here in
    let done : Doing i key k f x e f y = record {
      indexes = [];
      stand = no_indexes _ _ c.requires.emission.values;
      published = nothing_shown i k f;
      sent = c.in_ok-send_out.ensures.sent ∙ ap (λ (r : ℕ). map (out_of sys) x.outs.items ++ spread sys r [] (sys.targets (event_output sys k e.event))) lies;
      belong = subst (λ (r : ℕ). All (IsOut sys r) x.outs.items → All (IsOut sys r) c.send_out.new.outs.items) lies c.in_ok-send_out.ensures.belong;
      lines =
          c.push_reserved.ensures.items
          ∙ ap (λ (vs : List Value). c.reserve.new.self.items ++ line_by key k (record { event = c.args.event; values = vs }) ∷ []) c.new-values.ensures
          ∙ ap (λ (ls : List Line). ls ++ line_by key k e ∷ []) c.in_ok-reserve.ensures.items;
      timer = refl;
    } in
    has_emitted i key k f x e f y done c.requires.index.number lies c.requires.index.resource c.args.self.now.named c.requires.emission

pub returns-in_err-send_out-clause-whole : goal.returns-in_err-send_out-clause-whole
returns-in_err-send_out-clause-whole c = record { same = record { system = refl; key = refl; forest = refl; outbox = refl }; kept = kept-same c.args.self.now.system.now c.args.self.now.forest.now }

pub returns-in_err-reserve-clause-whole : goal.returns-in_err-reserve-clause-whole
returns-in_err-reserve-clause-whole c = record { same = record { system = refl; key = refl; forest = refl; outbox = refl }; kept = kept-same c.args.self.now.system.now c.args.self.now.forest.now }

pub returns-clause-whole : goal.returns-clause-whole
returns-clause-whole c = record { same = record { system = refl; key = refl; forest = refl; outbox = refl }; kept = kept-same c.args.self.now.system.now c.args.self.now.forest.now }
