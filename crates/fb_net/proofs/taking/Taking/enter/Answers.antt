use Rattle.fb_net.proofs.lemmas.Common.{ℕ, refl, subst, sym, ◌∙◌, All, on_ok_weaker, Inputs, system_of, Key, LeadsTo, entering, IsOut, InForest}
use Rattle.fb_system.specs.Ports.{IsPort}
use Rattle.fb_net.proofs.lemmas.taking.Arriving.{enters, sent-of}
use Rattle.fb_net.proofs.lemmas.emitting.PortRows.{composite-no_basic}
use Rattle.fb_net.proofs.lemmas.taking.TakingSteps.{already, done-well, put-out-after, ready-after, still}
use Rattle.fb_net.proofs.taking.Taking.enter.Goals as goal

pub keep_sampled-requires-clause-may : goal.keep_sampled-requires-clause-may
keep_sampled-requires-clause-may c = record {
  arrives = c.requires.arrives;
  input = c.requires.side;
  no_basic = composite-no_basic (system_of c.args.self.now.system.now) c.args.at.instance c.requires.composite;
}

pub keep_sampled-requires-clause-with : goal.keep_sampled-requires-clause-with
keep_sampled-requires-clause-with c = c.row_of-row.ensures.with

pub send_out-requires-clause-port : goal.send_out-requires-clause-port
send_out-requires-clause-port c =
    still (λ (i : Inputs) (k : Key). IsPort (system_of i) c.args.at) c.args.self.now c.keep_sampled.new.self c.keep_sampled.ensures.whole.same c.requires.arrives.port

pub send_out-requires-clause-first : goal.send_out-requires-clause-first
send_out-requires-clause-first c =
    still (λ (i : Inputs) (k : Key). LeadsTo (system_of i) c.args.at 0 c.row_of-row.result.first) c.args.self.now c.keep_sampled.new.self c.keep_sampled.ensures.whole.same c.row_of-row.ensures.first

pub returns-clause-entered : goal.returns-clause-entered
returns-clause-entered c =
    let a = c.args.self.now in
    let b = c.keep_sampled.new.self in
    let at = c.args.at in
    let whole = c.keep_sampled.ensures.whole in
    let same = whole.same in
    let taken = c.in_ok-keep_sampled.ensures.taken in
    let lies = still (λ (i : Inputs) (k : Key). InForest i b.forest.now at.instance) a b same (c.requires.arrives.stands.here ∙ sym whole.kept.resource) in
    done-well (entering a.system.now a.key.now at) a _ c.send_out.result
    (on_ok_weaker c.send_out.result
    (λ went. enters a.system.now a.key.now at a.forest.now b.forest.now a.outbox.now b.outbox.now (record b.outbox.now { outs = c.send_out.new.outs })
    taken.comes (ready-after a b whole c.requires.arrives.ready) refl refl
    (already (λ (i : Inputs) (k : Key). sent-of i b.forest.now.resource at b.outbox.now.outs.items c.send_out.new.outs.items) a b same
    (subst (λ (r : ℕ). sent-of b.system.now r at b.outbox.now.outs.items c.send_out.new.outs.items) lies went.sent)))
    c.send_out.ensures)
    (on_ok_weaker c.send_out.result
    (λ went. put-out-after a b b.forest.now (record b.outbox.now { outs = c.send_out.new.outs }) same taken.outs
    (λ were. record {
      lines = were.lines;
      outs = subst (λ (r : ℕ). All (IsOut (system_of b.system.now) r) b.outbox.now.outs.items → All (IsOut (system_of b.system.now) r) c.send_out.new.outs.items) lies went.belong were.outs;
    })) c.send_out.ensures)

pub returns-in_err-keep_sampled-clause-whole : goal.returns-in_err-keep_sampled-clause-whole
returns-in_err-keep_sampled-clause-whole c = c.keep_sampled.ensures.whole

pub returns-clause-whole : goal.returns-clause-whole
returns-clause-whole c =
    let whole = c.keep_sampled.ensures.whole in
    record { same = record { system = whole.same.system; key = whole.same.key; forest = whole.same.forest; outbox = whole.same.outbox }; kept = whole.kept }
