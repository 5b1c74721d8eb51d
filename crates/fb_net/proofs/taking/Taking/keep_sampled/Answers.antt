use Rattle.fb_net.proofs.lemmas.Common.{List, refl, subst, on_ok_weaker, system_of, Value, sampling, Changes, all_sampled, names_in}
use Rattle.fb_net.proofs.lemmas.emitting.PortRows.{indexes_in, one_with}
use Rattle.fb_net.proofs.lemmas.emitting.OutboxKept.{lines-put}
use Rattle.fb_net.proofs.lemmas.taking.TakingSteps.{done-well}
use Rattle.fb_net.proofs.lemmas.values.Sampling.{sampling-represents}
use Rattle.fb_net.proofs.lemmas.blocks.BlocksKept.{kept-changed, kept-same}
use Rattle.fb_net.proofs.taking.Taking.keep_sampled.Goals as goal

pub keep_samples-requires-clause-indexes : goal.keep_samples-requires-clause-indexes
keep_samples-requires-clause-indexes c = indexes_in (system_of c.args.self.now.system.now) c.args.at _ c.requires.may.input c.indexes_of-indexes.ensures

pub returns-clause-taken : goal.returns-clause-taken
returns-clause-taken c =
    let i = c.args.self.now.system.now in
    let at = c.args.at in
    let f = c.args.self.now.forest.now in
    let g = c.keep_samples.new.forest in
    let x = c.args.self.now.outbox.now in
    let y = c.write_taken.new.outbox in
    let kept = subst (λ (vs : List Value). Changes i f at.instance (all_sampled (names_in (system_of i) at) vs) g) c.as_slice.ensures c.keep_samples.ensures in
    done-well (sampling i c.args.self.now.key.now at) c.args.self.now _ c.write_taken.result
    (on_ok_weaker c.write_taken.result
    (λ written. sampling-represents i c.args.self.now.key.now at f g x y c.in_ok-values.values
    c.requires.may.arrives.ready c.requires.may.input c.requires.may.arrives.stands.here c.in_ok-values.ensures.sampled kept written c.write_taken.ensures.outs c.write_taken.ensures.timer)
    c.write_taken.ensures.written)
    (on_ok_weaker c.write_taken.result (lines-put i f g x y c.keep_samples.ensures.resource c.write_taken.ensures.outs) c.write_taken.ensures.lines)

pub returns-in_err-values-clause-whole : goal.returns-in_err-values-clause-whole
returns-in_err-values-clause-whole c = record { same = record { system = refl; key = refl; forest = refl; outbox = refl }; kept = kept-same c.args.self.now.system.now c.args.self.now.forest.now }

pub returns-clause-whole : goal.returns-clause-whole
returns-clause-whole c = record {
  same = record { system = refl; key = refl; forest = refl; outbox = refl };
  kept = kept-changed c.args.self.now.system.now c.args.self.now.forest.now c.keep_samples.new.forest c.args.at.instance _ c.keep_samples.ensures c.requires.may.arrives.stands.here;
}

pub keep_value-requires-clause-one : goal.keep_value-requires-clause-one
keep_value-requires-clause-one c = one_with (system_of c.args.self.now.system.now) c.args.at c.args.with.now _ _ c.in-One.is c.requires.with
